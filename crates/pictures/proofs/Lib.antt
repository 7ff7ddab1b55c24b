mod Common
mod JsonValues
mod Counts
mod Turns
