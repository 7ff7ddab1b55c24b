pub mod Board
pub mod Grid
pub mod Passes
pub mod Searches
pub mod WorkerRuns
pub use Rattle.work.specs.Board.{Facts, IsBoard, IsOf, share_of}
pub use Rattle.work.specs.Grid.{AreCellCounts, AreCells, RowsFrom, cells_of}
pub use Rattle.work.specs.Passes.{AreMarked, ArePast, CanReach, FoundNotReady, HasRooms, Holding, IsBusySeat, IsGridOf, IsHoldingSeat, IsIdleSeat, IsJoiningSeat, IsLaidOnce, IsSpare, IsTask, IsUnderway, Joining, LiesAs, Pass, Running, RunsIt, Settled, Took, mark_of, notes_read, own_of, pass_of, seen_of, with_asked, woken_of}
pub use Rattle.work.specs.Searches.{AreAt, ArePassed, Cancels, DidSearch, DidTake, DidTry, FewSteps, FewerSteps, IsEarlier, IsFirst, IsMeant, MayAim, ReadNotes, StepsIn, WentBy, WentOn, WorkerSeat, is_kind, steps_at, target_in, wanted_in}
pub use Rattle.work.specs.WorkerRuns.{AreFew, AreHits, DidCancel, DidReply, DidCancelAll, EndsBy, FoundOut, HasStepped, HasWoken, IsReason, IsRun, LaidAtBoth, LaidDown, MissedPipe, NoAnswer, StepsAt, StepsBy, Told, TookAlong, Unanswered, WakesAt, op_run, run_as, taken_in}
