-- The words of other modules that the proofs of this crate use.
pub use Rattle.atomic_table.proofs.Lists.{at_longer, at_set, exchanged, set_else, set_here}
pub use Rattle.atomic_table.specs.Table.{Act, Allows, Final, Joins, Seen, Splits, State, Valid, carried_after, gives, keeps, opening, rest, step, stepped, takes}
pub use Rattle.claim.specs.Claim.{Claim, fits, packed, tag_number}
pub use Rattle.claim.specs.declared.tag.Tag.{Tag}
pub use Rattle.claim.specs.declared.tag.Tag.TheVariants.{Armed, Done, Empty, Held, Ready, Running}
pub use Rattle.entry.specs.Entry.{Entry, drains, fails, fails_op, links_hard, links_soft}
pub use Rattle.entry.specs.declared.op.Op.{Op}
pub use Rattle.entry.specs.declared.op.Op.TheVariants.{AsyncCancel, Close, Invalid, LinkTimeout, Nop, PollAdd, Read, Splice, Timeout, TimeoutRemove, Write}
pub use Rattle.history.proofs.Growth.{MayChange, born_once, changed, counted, may_change, replied_stays, reply_of_replied, submission_none, submission_some, submission_stays, unborn_yet, unchanged}
pub use Rattle.history.proofs.Opening.{done_stays, open_stays, placed_stays, severed_stays}
pub use Rattle.history.proofs.Requests.{and_left, bool_cases, same_false, same_itself, same_true}
pub use Rattle.history.specs.{AimsAt, Answer, CancelAnswers, CancelBy, IsFirst, Matches, MayHit, NoneLeft, OpAnswers, asks_for, bad_end, is_all, is_pipe, now, IsBefore, IsChainDone, IsLinkTimeout, IsPlaced, IsTarget, Open, Severed, before_in, hosts, is_link_timeout, is_timeout, is_timer, placed, placed_behind, placed_from, previous, Cause, Hit, IsIdle, IsReplied, Phase, Submitted, adds_to, after_reap, answers, armed, becomes, by_count, by_cut, by_expire, by_fire, by_reply, by_settle, by_sever, by_take, clock_of, concerns, data_in, data_of, fired, has_missed, hit, later_replies, missed, nothing, phase, reaped, replied, reply_in, runs, same, shuts, submission, submits, ticks, took, unborn, waits, was_shut, End, Flow, closes, content, contents, end_of, flow, flows, flows_as, is_zero, moves, no_end, offered, read_end, reads, untouched, write_end, writes, is_at, is_steady, uses_at, uses_at_in}
pub use Rattle.history.specs.Legal.{Fits, IsPlacedAs, Legal, MayCome, Setup, count_of, shut_for, ticks_of}
pub use Rattle.history.specs.declared.event.Event.{Event}
pub use Rattle.history.specs.declared.event.Event.TheVariants.{Arm, Begin, Count, Cut, Expire, Fire, FireMiss, Miss, Park, Reap, Reply, Settle, Sever, Shut, Submit, Take, Tick}
pub use Rattle.history.specs.declared.req.Req.{Req}
pub use Rattle.std.proofs.Common.{Bool, IsTrue, List, None, Option, SFits, Some, [], add-one, ap, append-nil, arith, cond, eq-eqb, eqb, eqb-true, false, get_or, get_or-set_other, get_or-set_same, inl, inr, length, length-append, length-set, ltb-false, ltb-true, map, mul-le-mul_right, nat_lt, ne_eqb, negsuc, not, of_z, pos, refl, replicate, rules, set, slice_index, subst, suc, suc-mul, sym, take, true, true≢false, w32, zero, ℕ, ℤ, ⊎_elim, ◌%◌, ◌&&◌, ◌*◌, ◌++◌, ◌+◌, ◌-◌, ◌<◌, ◌∙◌, ◌∷◌, ◌≡◌, ◌≢◌, ◌≤◌, ◌⊎◌}
pub use Rattle.std.proofs.lemmas.Bool.{and_from, and_parts, and_right, lt-ltb}
pub use Rattle.std.proofs.lemmas.Int.{ints, to_z-of_z}
pub use Rattle.std.specs.Prelude.{vec_capacity, ◌==◌, ◌||◌}
pub use Rattle.steps.specs.{Ages, CellOk, Home, IsCell, IsSubmission, Keeps, MayBegin, PipeIn, PipeIs, PipeOk, PipeSays, Says, cause_bits, cells_in, claim_at, count_at, facts_at, note_at, pipe_at, place_of, reply_bits, request_at, ring_of, setup_of, slot_at, slots_of, stands, total, user_at, word_of, words_of, AreNoted, FactsLeft, FactsTell, Fair, HasNone, HasWaited, IsCountNoted, IsFactsNote, IsFree, IsIn, IsReaped, MayLay, NotesSay, NotesTell, Orderly, events_of, freed, frees, holder, is_holder, lays, lent, lying, noted, stores, count_in, count_notes, etime_in, facts_of, outcome_of, row_number, ticks_in, At, Hands, HasAlone, HasBoth, HasPipe, HasPipeAfter, HasPipeLaid, IsIdleWord, IsSamePipe, MayReply, Seated, armed_for, began, clock_set, emptied, expired, fired_at, fired_late, is_idle, looked, request_after, noted_more, noticed, opened, parked, pipe_left, pipe_left_first, pipe_left_last, pipe_returned, pipe_taken, reaps, released, replied_with, settled, severed, submitted, sure, taken, tried, tried_idle, AllBegin, AllSaw, AreMade, AreSteps, Begins, Ended, Extends, ExtendsAfter, IsDone, IsGone, IsHeard, IsHeldBy, IsLentBy, IsOneOf, IsRunBy, IsStep, Knows, Looks, NoneOf, Owner, Ruled, Saw, SeatOk, Shown, Vacant, apart, hearing, holders, idle_one, is_leaving, leaves, leaves_one, messenger, next_poller, next_submitter, nobody, opening_view, owner, owns, parts_of, pollers, rings, seeing, spent_view, stands_for, submitter_of, without_next, without_one, workers}
pub use Rattle.steps.specs.declared.line.Laid.{Laid}
pub use Rattle.steps.specs.declared.line.Line.{Line}
pub use Rattle.steps.specs.declared.line.Line.TheVariants.{Did, Free, Freed, Hold, Lent, Noted}
pub use Rattle.steps.specs.declared.slot.Submission.{Submission}
pub use Rattle.steps.specs.declared.slot.Thing.{Thing}
pub use Rattle.steps.specs.declared.slot.Thing.TheVariants.{Full, Piped}
pub use Rattle.steps.specs.declared.view.Heard.{Heard}
pub use Rattle.steps.specs.declared.view.Layout.{Layout}
pub use Rattle.steps.specs.declared.view.Role.{Role}
pub use Rattle.steps.specs.declared.view.Role.TheVariants.{Busy, Idle, Leaving, Lending, Parting, Poller, Spent, Submitter}
pub use Rattle.steps.specs.declared.view.Step.{Step}
pub use Rattle.steps.specs.declared.view.View.{View}
pub use lib.ListN.{get_elem?, get_or-replicate, length-replicate}
pub use lib.Seq.{set-get_or}
pub use mathlib.Core.Logic.{dite}
pub use mathlib.Core.Option.{none, some, some-injective, some-ne-none}
pub use native.Mathlib.Decide.{ℕ_discrete}
pub use prog.Atomic.{either}
