-- The words of other modules that the proofs of this crate use.
pub use Rattle.board.specs.{IsCompletion, AllTell, IsReport, SawOwnLines, ended}
pub use Rattle.board.specs.declared.completion.Completion.{Completion}
pub use Rattle.history.specs.History.{IsReplied, adds_to, answers, clock_of, concerns, data_in, data_of, phase, reaped, replied, submits, unborn, was_shut}
pub use Rattle.history.specs.Legal.{Allowed, Legal, Setup}
pub use Rattle.history.specs.declared.event.Event.{Event}
pub use Rattle.history.specs.declared.req.Req.{Req}
pub use Rattle.runtime.specs.Clients.{AreClients, AreNewClients, ClientFacts, IsNewClient, IsStarted, submitter_of}
pub use Rattle.script.proofs.CarriedLines.{all_keep, carried_on, clock_at_end, clock_waited, hands_next, line_done, line_handed, none_keeps, ring_at_end, sets_next, timed_on}
pub use Rattle.script.proofs.Items.{front_at, rest_at}
pub use Rattle.script.specs.{HasCarried, HasTimed, KeepsRing, steps_in, IsTableOf, Keeps, holds_for, is_armed, is_done, is_replied, row_of, setup_of}
pub use Rattle.script.specs.declared.act.Act.{Act}
pub use Rattle.script.specs.declared.act.Act.TheVariants.{Submit}
pub use Rattle.script.specs.declared.script.Script.{Script}
pub use Rattle.script_run.specs.{AreClockLines, IsAlong, IsClockLine, IsTimed, asked_at, asked_of, has_reply, is_ready, line_at, EndsAs, IsAtLine, IsOfPlace, IsUndone, WasTried, AreEntries, AreNew, AreTaken, Carries, ActorAt, SubmittedBatch, IsCarried, IsEntryAt, IsNewActor, IsThrough, Stayed, Went, client_of, seen_by, taken_by, AreInOrder, AreStarting, IsPlayed, IsStartedFor, AreRows, HasRun, IsFound, IsRow, IsRowOf, HasLabel, IsStuck, IsStuckClock, IsStuckOn, IsStuckRing, WasUndone, AllCarriedOut, CarriedOut, IfStuck, IsFor, IsInVain, IsLowest, IsStuckLine, RanOut, TriedInVain}
pub use Rattle.script_run.specs.declared.clock.ClockLine.{ClockLine}
pub use Rattle.script_run.specs.declared.clock.ClockLine.TheVariants.{Armed, Tick, Wait}
pub use Rattle.script_run.specs.declared.actor.Actor.{Actor}
pub use Rattle.script_run.specs.declared.lines.Halt.TheVariants.{Stuck}
pub use Rattle.std.proofs.Common.{All, Bool, IfSome, List, None, Option, Some, [], add-one, ap, arith, cond, drop, false, get_or, inl, inr, length, length-append, map, max, min, nat_le, nat_lt, refl, reverse, rules, slice_index_or, subst, suc, sym, take, true, true≢false, vec_capacity, zero, ℕ, ℤ, ⊎_elim, ◌&&◌, ◌++◌, ◌+◌, ◌<◌, ◌==◌, ◌^◌, ◌||◌, ◌∙◌, ◌∷◌, ◌≡◌, ◌≤◌, ◌⊎◌}
pub use Rattle.std.proofs.Math.Seq.{drop-cons, get_or-append_seam, take-length, take-suc}
pub use Rattle.std.proofs.lemmas.List.{append_assoc, get_or-map, length-map, map-append, reverse-append, take-append-drop, take-append-le, take_all}
pub use Rattle.std.proofs.lemmas.Option.{get_or_from_slice_get, none-some, slice_get-get_or, slice_get-map, slice_get_cases, slice_get_read, slice_get_within}
pub use Rattle.std.proofs.lemmas.Result.{IfErr-weaker, IfOk-weaker, err_from_is_err_and}
pub use Rattle.std.specs.Global.{Vec}
pub use Rattle.std.specs.Prelude.{Err, IfOk, Ok, Result, slice_get, slice_index}
pub use Rattle.steps.specs.Journal.{event_of, events_of}
pub use Rattle.steps.specs.declared.line.Line.{Line}
pub use Rattle.steps.specs.declared.view.Role.{Role}
pub use Rattle.steps.specs.declared.view.Role.TheVariants.{Poller, Submitter}
pub use Rattle.work.specs.{Facts, Pass, own_of, seen_of}
