pub mod Deadlines
pub mod TimerLists
pub mod CallRuns
pub mod Wheel
pub use Rattle.wheel.specs.CallRuns.{Answers, Runs}
pub use Rattle.wheel.specs.Deadlines.{IsFirstDue, armed, dropped}
pub use Rattle.wheel.specs.TimerLists.{AllFrom, InOrder, IsOnce, deadline_in, with_timer, without}
pub use Rattle.wheel.specs.Wheel.{AreFrom, IsLeast, StandFrom, bound_of, deadline_at, earlier_of, front_of, has_deadline, in_slot, no_timers, slot_list}
