mod Common
mod StuckRuns
pub mod ClientCalls
pub mod ClockSteps
pub mod ActorLists
pub mod ActorSteps
pub mod RunSteps
pub mod WholeTables
