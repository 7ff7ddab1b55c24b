-- The words of other modules that the proofs of this crate use.
pub use Rattle.bell.specs.BellPasses.{IsNew, IsRingerOf, Ringing, Sleeping, new_ringing}
pub use Rattle.board.proofs.GoesLaws.{events_before, goes_then, own_both}
pub use Rattle.board.specs.PassEvents.{AreNew, GoesOn, answered_by, answered_one, is_among}
pub use Rattle.board.specs.{Goes, IsUnheld, Stands, next_of, RefusesBatch, RefusesReap, AreOf, IsReport, counts, widest, IsEarly, IsUnarmed, armed_by}
pub use Rattle.board.specs.declared.completion.Completion.{Completion}
pub use Rattle.event_count.specs.Passes.{HasNoticed, IsNotifierOf, IsWaiterOf, Notifying}
pub use Rattle.history.specs.{IsReplied, Phase, armed, becomes, clock_of, concerns, phase, runs, same, submits, unborn, waits, counts_tick, ticked}
pub use Rattle.history.specs.declared.event.Event.{Event}
pub use Rattle.history.specs.declared.event.Event.TheVariants.{Arm, Count, Cut, Expire, Fire, Reap, Settle, Sever, Take, Tick}
pub use Rattle.history.specs.declared.req.Req.{Req}
pub use Rattle.outbox.specs.Outbox.{Places, with_request}
pub use Rattle.ready.specs.Ready.{AreAll, Moves, all_put, all_taken, times}
pub use Rattle.runtime.specs.{HasNext, Owed, AreClients, AreNewClients, ClientFacts, HasAwaited, HasTaken, IsNewClient, WasRefused, submitter_of, without_tail, AreWorking, Crew, HasShares, all_passes, own_in, own_share, ready_of, shares_in, shares_of, worker_of, AreHeldBack, ArePending, Cares, IsCared, IsDone, IsHeldBack, IsLinkedDue, IsNoted, IsPendingTimer, IsPlain, IsSet, LooksAfter, NoneIsDue, Once, cares_of, taken_in, with_waiting, IsPollSide, IsPolling, IsServing, IsWorkSide, AreNumbered, AreRingers, IsNewRinger, HandedOver, kept_in, IsWorkTurn, PutsBack, Shifts, Worked, answered_in, ended_in}
pub use Rattle.runtime.specs.Parts.{HasFewerTimers, HasRung, HasStopped, HaveWaited, IsDueTimer, IsStuck, RangOn, StandsPolled, WaitsOn, WasTried, WatchesOn, WentOn, stands_armed, with_watched}
pub use Rattle.runtime.specs.PollTurns.{AllRung, Desk, Did, HasTicked, IsAt, IsPollTurn, IsPollers, IsStill, IsStopped, IsTaken, MayRelease, MayRing, Rang, ReachesTo, cares_in, cells_in_all}
pub use Rattle.runtime.specs.declared.lists.Intake.{Intake}
pub use Rattle.runtime.specs.declared.shared.Shared.{Shared}
pub use Rattle.runtime.specs.declared.threads.WorkSide.{WorkSide}
pub use Rattle.std.proofs.Common.{All, Bool, Err, IsTrue, List, None, Ok, Option, Result, Some, [], ap, arith, cond, drop, false, get_or, inl, inr, is_ok, length, length-append, map, refl, reverse, rules, slice_get, slice_index, subst, suc, sum_by, sym, true, true≢false, vec_capacity, zero, ℕ, ⊎_elim, ◌++◌, ◌+◌, ◌-◌, ◌<◌, ◌^◌, ◌∙◌, ◌∷◌, ◌≡◌, ◌≢◌, ◌≤◌, ◌⊎◌}
pub use Rattle.std.proofs.lemmas.List.{append-nil, append_assoc, length-map, map-append, reverse-append}
pub use Rattle.std.proofs.lemmas.List.Elements.{All-pop, All-push}
pub use Rattle.std.proofs.lemmas.List.Sums.{sum_by-append, sum_by-cons, sum_by_push}
pub use Rattle.std.specs.Arc.{arc_value}
pub use Rattle.std.specs.Prelude.{IfOk, take}
pub use Rattle.steps.specs.{cells_in, setup_of, total, events_of, freed, frees, Begins, owns}
pub use Rattle.steps.specs.declared.line.Line.{Line}
pub use Rattle.steps.specs.declared.view.Role.TheVariants.{Poller, Submitter}
pub use Rattle.wheel.specs.Wheel.{deadline_at}
pub use Rattle.work.specs.{Facts, IsOf, Pass, own_of, seen_of}
