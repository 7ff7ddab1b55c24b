pub mod Wakes
pub mod Plays
pub mod Rule
pub mod BellPasses
pub use Rattle.bell.specs.BellPasses.{HasAsked, HasGivenUp, HasLoaded, HasRead, HasReadOne, HasTakenBack, HasWoken, HaveRisen, IsBell, IsSleeperSeat, Ringing, Sleeping, WasFound, loads_of, new_ringing}
pub use Rattle.bell.specs.Plays.{armed, arming, asked, looked, looking, read, reading, stored, storing, took_back, waking}
pub use Rattle.bell.specs.Rule.{IsBetween, IsHeeded, IsRung, IsSound, IsTold, Ruled, new_ringer, opening_view, with_ringer}
pub use Rattle.bell.specs.Wakes.{AreChanges, IsSince, SawFinds, bit, cleared, stands, taken_back}
