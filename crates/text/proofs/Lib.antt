pub mod Common
pub mod Numbers
pub mod Hexadecimal
pub mod Cuts
pub mod Lines
