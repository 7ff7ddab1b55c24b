pub mod Common
pub mod Lines
pub mod Steps
pub mod Opening
pub mod NewPasses
