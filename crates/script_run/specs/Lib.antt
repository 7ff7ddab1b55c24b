pub mod ClockLines
pub mod ClockStays
pub mod ClockTries
pub mod Faults
pub mod Actors
pub mod Played
pub mod RunRows
pub mod Stuck
pub mod Tries
pub use Rattle.script_run.specs.ClockLines.{AreClockLines, IsAlong, IsClockLine, IsTimed, asked_at, asked_of, has_reply, is_ready, line_at}
pub use Rattle.script_run.specs.ClockStays.{at_line_stays}
pub use Rattle.script_run.specs.ClockTries.{EndsAs, IsAtLine, IsOfPlace, IsUndone, WasTried}
pub use Rattle.script_run.specs.Faults.{IfStuckOn, IsUnstuck}
pub use Rattle.script_run.specs.Actors.{AreEntries, AreNew, AreTaken, Carries, ActorAt, SubmittedBatch, IsCarried, IsEntryAt, IsNewActor, IsThrough, Stayed, Went, client_of, seen_by, taken_by}
pub use Rattle.script_run.specs.Played.{AreInOrder, AreStarting, IsPlayed, IsStartedFor}
pub use Rattle.script_run.specs.RunRows.{AreRows, HasRun, IsFound, IsRow, IsRowOf}
pub use Rattle.script_run.specs.Stuck.{HasLabel, IsStuck, IsStuckClock, IsStuckOn, IsStuckRing, WasUndone}
pub use Rattle.script_run.specs.Tries.{AllCarriedOut, CameTo, CarriedOut, IfStuck, IsFor, IsInVain, IsLowest, IsStuckLine, LooksInVain, RanOut, TriedInVain}
