pub mod CommandLine
pub mod Jobs
pub use Rattle.command_line.specs.CommandLine.{AreTables, Asks, IsAsked, IsCheckFor, IsHistoryFor, IsJobFor, IsNumber, IsOutcomesFor, IsRunFor, IsTimes, ringrun}
pub use Rattle.command_line.specs.Jobs.{IsWithin, look_by}
