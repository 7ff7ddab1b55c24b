mod Common
mod LongerLists
pub mod Items
pub mod CountedLines
pub mod LinesStay
pub mod CarriedLines
pub mod RequestsRead
pub mod RequestEntries
pub mod RowData
