pub mod Batches
pub mod Calls
pub mod Headline
pub mod LastCells
pub mod New
pub mod PassEvents
pub mod PollerRows
pub mod PollerTimers
pub mod Polls
pub mod Queues
pub mod Refusals
pub mod Reports
pub mod Seats
pub mod ShapeLimits
pub mod TimerCalls
pub use Rattle.board.specs.Batches.{AreFit, Entries, IsReady, is_empty, steps_for, steps_in, submits_of}
pub use Rattle.board.specs.Calls.{EndsWith, Finds, FoundHeld, Goes, HasLooked, IsHeld, IsPresent, IsUnheld, IsWord, KeepsFreed, LastAt, MayStart, Stands, Stepped, next_of}
pub use Rattle.board.specs.Headline.{HasOnce, IsCompletion}
pub use Rattle.board.specs.LastCells.{Closing, hearing_all}
pub use Rattle.board.specs.New.{AreSubmitters, AreWorkers, IsCutting, IsFresh, IsNew}
pub use Rattle.board.specs.PassEvents.{AreNew, GoesOn, answered_by, answered_one, is_among}
pub use Rattle.board.specs.PollerRows.{Decides, IsAt, IsOurs, KnowsRows, MayArm, Paid, Spends}
pub use Rattle.board.specs.PollerTimers.{IsPast, IsTimerAs, KnowsAlarm, KnowsTimers, looks_at}
pub use Rattle.board.specs.Polls.{HasRung, polled_by}
pub use Rattle.board.specs.Queues.{AreFree, HasLookedAt, IsQueue, IsOver, IsCellOf, KnowsChains, LinkedAreReaped, RefusesRoom, SameQueue, WereReaped, continues, nth}
pub use Rattle.board.specs.Refusals.{RefusesBatch, RefusesEntry, RefusesReap}
pub use Rattle.board.specs.Reports.{AllTell, AreLater, AreOf, BeginsWith, IsListed, IsReport, IsSeen, Ordered, SawOwnLines, Tells, ended}
pub use Rattle.board.specs.Seats.{IsNextCell, IsPollerSeat, IsSubmitterSeat, KnowsCell, KnowsCells}
pub use Rattle.board.specs.ShapeLimits.{are_capacities, are_rings, counts, is_ring, is_shape, widest}
pub use Rattle.board.specs.TimerCalls.{ArmTells, Arms, CountingTells, Counts, DidStrike, EndsFired, Expires, ExpiryTells, FailsAs, Fires, FiresDue, HasCounted, HasExpired, HasFewer, HasFired, HasSettled, IsArmed, IsArmedAt, IsArmedFor, IsBarred, IsCounting, IsDueLinked, IsEarly, IsHeldTimer, IsNoTimer, IsNoneToExpire, IsNoneToSettle, IsShutTimer, IsTargetDone, IsTargetOpen, IsUnarmed, IsUncounted, IsUnfired, Keeps, Refuses, Settles, SettlingTells, TellsDeadline, TellsReply, WasClear, armed_by, counted_by, expired_by, fired_by, settled_by, struck_by}
