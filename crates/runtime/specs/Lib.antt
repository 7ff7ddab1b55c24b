pub mod Desks
pub mod Turns
pub mod PollTurns
pub mod Parts
pub mod WorkTurns
pub mod Clients
pub mod Loops
pub mod Crews
pub mod Rests
pub mod StartParts
pub mod Backlogs
pub mod PostLocks
pub use Rattle.runtime.specs.Backlogs.{HasNext, Owed, no_numbers}
pub use Rattle.runtime.specs.Clients.{AreClients, AreNewClients, ClientFacts, HasAwaited, HasTaken, IsNewClient, IsStarted, WasRefused, submitter_of, without_tail}
pub use Rattle.runtime.specs.Crews.{AreWorking, Crew, HasShares, IsDrained, IsEndRoom, IsPollThread, all_passes, own_in, own_share, owns_of, ready_of, share_of, shares_in, shares_of, threads_for, worker_of}
pub use Rattle.runtime.specs.Desks.{AreHeldBack, ArePending, Cares, IsCared, IsDone, IsHeldBack, IsLinkedDue, IsNoted, IsPendingTimer, IsPlain, IsSet, LooksAfter, NoneIsDue, Once, cares_of, taken_in, with_waiting}
pub use Rattle.runtime.specs.Loops.{IsPollSide, IsPolling, IsServing, IsWorkSide, MayOwn}
pub use Rattle.runtime.specs.Parts.{HasFewerTimers, HasRung, IsStuck, RangOn, StandsPolled, WaitsOn, WatchesOn, WentOn, stands_armed, with_watched}
pub use Rattle.runtime.specs.PollTurns.{AllCounted, AllDone, AllRung, AllTaken, AllTried, Did, HasRoom, HasTicked, IsAt, IsAtRest, IsNewDesk, IsPollTurn, IsPollers, IsStill, IsTaken, MayRelease, MayRing, Rang, ReachesTo, cares_in, cells_in_all}
pub use Rattle.runtime.specs.PostLocks.{AreNumbered}
pub use Rattle.runtime.specs.Rests.{CameToRest, HasRested, IsHalted}
pub use Rattle.runtime.specs.StartParts.{AreRingers, HavePairs, IsNewRinger, IsParts}
pub use Rattle.runtime.specs.Turns.{HandedOver, kept_in}
pub use Rattle.runtime.specs.WorkTurns.{FoundNone, IsWorkTurn, PutsBack, Shifts, Worked, answered_in, ended_in}
