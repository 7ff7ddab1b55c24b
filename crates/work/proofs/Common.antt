-- The words of other modules that the proofs of this crate use.
pub use Rattle.answers.proofs.Naming.{only_joined, uses_joined}
pub use Rattle.answers.specs.Answered.{Answered, AnsweredBoth, Does, IsPipe, is_plain}
pub use Rattle.answers.specs.NamedEnds.{AreNamed, JoinsPipes, UsesBoth, UsesNone, UsesOne}
pub use Rattle.atomic_table.specs.Seated.{TableId}
pub use Rattle.atomic_table.specs.Table.{rest, turned}
pub use Rattle.claim.specs.Facts.{fits_facts, packed_facts}
pub use Rattle.claim.specs.declared.tag.Tag.{Tag}
pub use Rattle.entry.specs.Entry.{Entry, fails, fails_op}
pub use Rattle.entry.specs.declared.op.Op.{Op}
pub use Rattle.entry.specs.declared.op.Op.TheVariants.{AsyncCancel, Close, Invalid, LinkTimeout, Nop, PollAdd, Read, Splice, Timeout, TimeoutRemove, Write}
pub use Rattle.history.proofs.Growth.{born_once, submission_some}
pub use Rattle.history.proofs.Requests.{and_left, and_right, bool_cases, same_itself, same_true}
pub use Rattle.history.specs.{AimsAt, CancelAnswers, CancelBy, Matches, MayHit, OpAnswers, asks_for, is_all, is_pipe, IsBefore, IsPlaced, before_in, hosts, is_link_timeout, is_timer, placed_behind, placed_from, Cause, Hit, IsIdle, IsReplied, Phase, Submitted, by_take, has_missed, hit, hits, missed, nothing, phase, reaped, replied, runs, same, submission, submits, taken_count, took, unborn, was_shut, Flow, contents, flow, flows, flows_as, offered}
pub use Rattle.history.specs.Legal.{FitsOp, Legal, Setup}
pub use Rattle.history.specs.declared.event.Event.{Event}
pub use Rattle.history.specs.declared.event.Event.TheVariants.{Begin, Miss, Park, Reply, Take}
pub use Rattle.history.specs.declared.req.Req.{Req}
pub use Rattle.pipe.specs.Pipe.{Conduit}
pub use Rattle.std.proofs.Common.{Bool, IsTrue, List, None, Option, Some, [], ap, arith, bit_and, cond, eq-eqb, eqb-true, false, get_or, inl, inr, le-ltb, length, length-append, ltb-false, ltb-true, max, nat_lt, ne_eqb, negsuc, not, of_z, pos, refl, rules, slice_index, subst, suc, sym, take, to_z, true, true≢false, w32, w64, zero, ℕ, ℤ, ⊎_elim, ◌%◌, ◌&&◌, ◌*◌, ◌++◌, ◌+◌, ◌-◌, ◌/◌, ◌<◌, ◌==◌, ◌^◌, ◌||◌, ◌∙◌, ◌∷◌, ◌≡◌, ◌≢◌, ◌≤◌, ◌⊎◌}
pub use Rattle.std.proofs.lemmas.Bool.{cases_eq, lt-ltb}
pub use Rattle.std.proofs.lemmas.Int.{to_z-of_z, to_z_pos}
pub use Rattle.std.proofs.lemmas.List.{append_assoc, places, take_more, with_items_is}
pub use Rattle.std.specs.Prelude.{is_some, vec_capacity}
pub use Rattle.steps.proofs.CellNumbers.{age_small, first_cell, located, one_row, some_cells}
pub use Rattle.steps.proofs.JournalGrowth.{lasts, placed_lasts, replied_later, still_runs, submission_lasts, submits_grow, submitted_in}
pub use Rattle.steps.proofs.OwnFacts.{never_asked, same_hit}
pub use Rattle.steps.proofs.PipeSteps.{lacks_after, one_worker}
pub use Rattle.steps.proofs.StepKinds.{in_hand}
pub use Rattle.steps.proofs.ViewsKept.{layout_after, submission_after, parts_after, role_after}
pub use Rattle.steps.specs.{IsCell, IsSubmission, PipeIs, cells_in, claim_at, facts_at, note_at, over, pipe_at, place_of, request_at, ring_of, setup_of, slot_at, stands, total, user_at, word_of, words_of, FactsTell, HasNone, HasWaited, IsReaped, MayLay, NotesSay, NotesTell, Orderly, event_of, events_of, goes_out, holder, lays, lent, lying, noted, HasAlone, HasBoth, HasPipeAfter, HasPipeLaid, HasPipesAfter, IsIdleWord, IsSamePipe, MayReply, Seated, is_idle, AllBegin, AreMade, Begins, Extends, IsSameSeat, IsStep, IsThreeSteps, IsTwoSteps, Looks, NoneOf, Saw, Shown, holders, leaves, leaves_one, owns, seeing, stands_for, LiesIn, NoneSleeps}
pub use Rattle.steps.specs.declared.line.Laid.{Laid}
pub use Rattle.steps.specs.declared.line.Laid.TheVariants.{NoRequest}
pub use Rattle.steps.specs.declared.line.Line.{Line}
pub use Rattle.steps.specs.declared.line.Line.TheVariants.{Did, Free, Hold}
pub use Rattle.steps.specs.declared.slot.Submission.{Submission}
pub use Rattle.steps.specs.declared.slot.Thing.{Thing}
pub use Rattle.steps.specs.declared.slot.Thing.TheVariants.{Full, Piped}
pub use Rattle.steps.specs.declared.slot.WaitedPipe.{WaitedPipe}
pub use Rattle.steps.specs.declared.view.Layout.{Layout}
pub use Rattle.steps.specs.declared.view.Role.{Role}
pub use Rattle.steps.specs.declared.view.Role.TheVariants.{Busy, Idle, Leaving}
pub use Rattle.steps.specs.declared.view.Step.{Step}
pub use Rattle.steps.specs.declared.view.View.{View}
pub use Rattle.work.specs.{Facts, IsOf, share_of, AreCellCounts, RowsFrom, cells_of, AreMarked, ArePast, HasRooms, Holding, IsBusySeat, IsGridOf, IsHoldingSeat, IsIdleSeat, IsJoiningSeat, IsLaidOnce, IsTask, IsUnderway, Joining, LiesAs, Pass, Running, RunsIt, Settled, Took, mark_of, notes_read, own_of, seen_of, with_asked, woken_of, AreAt, ArePassed, Cancels, DidSearch, DidTake, DidTry, FewSteps, FewerSteps, IsEarlier, IsMeant, MayAim, ReadNotes, StepsIn, WentBy, WentOn, WorkerSeat, is_kind, steps_at, target_in, wanted_in, AreFew, AreHits, DidCancel, DidReply, DidCancelAll, EndsBy, FoundOut, HasStepped, HasWoken, IsReason, IsRun, LaidAtBoth, LaidDown, MissedPipe, NoAnswer, StepsAt, StepsBy, Told, TookAlong, Unanswered, WakesAt, op_run, run_as, taken_in}
pub use Rattle.work.specs.declared.cancel.Tried.TheVariants.{Missed, Passed}
pub use Rattle.work.specs.declared.cancel.Wanted.{Wanted}
pub use Rattle.work.specs.declared.grid.RingCells.{RingCells}
pub use Rattle.work.specs.declared.lists.Lists.{Lists}
pub use Rattle.work.specs.declared.marks.Marks.{Marks}
pub use mathlib.Core.Logic.{dite}
pub use native.Mathlib.Decide.{ℕ_discrete}
