pub mod Common
pub mod NumberBytes
pub mod RowTests
pub mod EntryBytes
pub mod Completion
pub mod Masks
pub mod RowMeaning
pub mod BytePlaces
