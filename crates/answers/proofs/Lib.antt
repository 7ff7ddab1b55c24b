pub mod Absent
pub mod Common
pub mod Naming
pub mod Operating
pub mod Splicing
