pub mod Balance
pub mod Common
pub mod SpanLists
