pub mod AsBox
pub mod Batches
pub mod Common
pub mod Lives
pub mod PassLists
pub mod ReportLines
pub mod Through
pub mod TurnLaws
