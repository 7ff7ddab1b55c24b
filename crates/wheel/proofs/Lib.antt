pub mod Common
pub mod Fronts
pub mod LongerRuns
pub mod Slotting
pub mod Sorting
