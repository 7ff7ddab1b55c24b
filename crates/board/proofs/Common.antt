-- The words of other modules that the proofs of this crate use.
pub use Rattle.atomic_table.specs.Table.{Me}
pub use Rattle.atomic_table.specs.declared.shared.Seat.{Seat}
pub use Rattle.board.specs.{AreFit, Entries, IsReady, is_empty, steps_for, steps_in, submits_of, EndsWith, FoundHeld, Goes, HasLooked, IsHeld, IsPresent, IsUnheld, IsWord, KeepsFreed, LastAt, MayStart, Stands, Stepped, next_of, AreFree, HasLookedAt, IsQueue, IsOver, IsCellOf, KnowsChains, LinkedAreReaped, RefusesRoom, SameQueue, WereReaped, continues, nth, AreSubmitters, AreWorkers, IsCutting, IsFresh, AllTell, AreLater, AreOf, BeginsWith, IsListed, IsReport, IsSeen, Ordered, SawOwnLines, Tells, ended, IsNextCell, IsPollerSeat, IsSubmitterSeat, KnowsCell, KnowsCells, are_capacities, are_rings, counts, is_ring, is_shape, widest, ArmTells, Arms, CountingTells, Counts, DidStrike, EndsFired, Expires, ExpiryTells, FailsAs, Fires, FiresDue, HasFewer, IsArmed, IsArmedAt, IsBarred, IsCounting, IsDueLinked, IsEarly, IsHeldTimer, IsNoTimer, IsShutTimer, IsTargetOpen, IsUnarmed, IsUncounted, IsUnfired, Settles, SettlingTells, TellsDeadline, TellsReply, armed_by, counted_by, expired_by, fired_by, settled_by, struck_by}
pub use Rattle.board.specs.PollerRows.{Advances, Decided, Decides, Found, FoundPending, Gated, HasOutcome, IsAt, IsBlocked, IsNextLook, IsNumbered, IsOurs, IsShutOut, IsSubmitted, IsUnended, KnowsRow, KnowsRows, MayArm, Notes, Paid, Spends, StepsTo, TellsOutcome, WasHeld, Watched, Watches, costs_of, is_plain, looks_of, owed, owed_back, severed_by, spared_by, steps_elsewhere}
pub use Rattle.board.specs.PollerTimers.{IsAlarm, IsKept, IsTimerAs, KnowsAlarm, KnowsTimers, looks_at, looks_for_count}
pub use Rattle.board.specs.LastCells.{AreEarlier, AreLines, AreTaken, Closing, IsCutOrNot, IsEmptied, IsLeft, IsLine, IsLineOf, IsReplyOf, Reports, Rests, data_left, full_slots, hearing_all, told_by}
pub use Rattle.board.specs.declared.alarm.Alarm.{Alarm}
pub use Rattle.board.specs.declared.alarm.Alarm.TheVariants.{Alone, Linked}
pub use Rattle.board.specs.declared.completion.Completion.{Completion}
pub use Rattle.board.specs.declared.queue.Queue.{Queue}
pub use Rattle.board.specs.declared.phase.Phase.TheVariants.{Armed, Done, Gone, Held, Ready, Running, Unborn}
pub use Rattle.board.specs.declared.poller.Arming.TheVariants.{NotTimer, Shut}
pub use Rattle.board.specs.declared.poller.Released.{Released}
pub use Rattle.board.specs.declared.poller.Released.TheVariants.{NotHeld}
pub use Rattle.board.specs.declared.shape.RingShape.{RingShape}
pub use Rattle.board.specs.declared.gating.Gating.{Gating}
pub use Rattle.claim.specs.Claim.{Claim, allows, fits, is_cause, packed}
pub use Rattle.claim.specs.Facts.{bit, fits_facts, packed_facts}
pub use Rattle.claim.specs.declared.tag.Tag.{Tag}
pub use Rattle.claim.specs.declared.tag.Tag.TheVariants.{Empty}
pub use Rattle.entry.specs.Entry.{Entry, drains, fails, fails_op, links, links_hard, links_soft}
pub use Rattle.entry.specs.declared.op.Op.{Op}
pub use Rattle.entry.specs.declared.op.Op.TheVariants.{AsyncCancel, Close, Invalid, LinkTimeout, Nop, PollAdd, Read, Splice, Timeout, TimeoutRemove, Write}
pub use Rattle.gates.proofs.Lists.{get_before, get_last, get_set_other, get_set_same, get_there, one_some}
pub use Rattle.gates.proofs.TrailLaws.{gone_on_stays, lost_replied, met_trails, of_chain_done, plain_later, stand_in_trails, trails_later, trails_more, trails_none, trails_replied, trails_stand_ins}
pub use Rattle.gates.specs.{Kept, Waits, added, slot_with, stand_in, stand_ins, waiting, waiting_in, with_reply, ArePlain, HasNotSevered, HaveGoneOn, IsLink, IsOfChain, IsOutcome, IsPlainAt, IsTargetOf, StandsIn, TrailedAt, Trails, TrailsAt, linked_in, named_in, Slot, is_pending, passes, test_at, traits_of}
pub use Rattle.history.proofs.Growth.{MayChange, born_once, changed, counted, may_change, replied_of_reply, reply_stays, submission_some, submission_stays, unborn_yet, unchanged}
pub use Rattle.history.proofs.Requests.{and_left, and_right, bool_cases, not_true, same_false, same_itself, same_true}
pub use Rattle.history.specs.{IsBefore, IsChainBefore, IsChainDone, IsChained, IsClear, IsLinkTimeout, IsPlaced, IsTarget, Open, Severed, before_in, gate_of, hosts, is_link_timeout, is_link_timeout_in, is_timeout, is_timer, joins, placed, placed_behind, placed_from, previous, Cause, IsIdle, IsPending, IsReplied, Phase, Submitted, adds_to, after_reap, answers, armed, becomes, by_count, by_cut, by_expire, by_fire, by_reply, by_settle, by_sever, by_take, clock_of, concerns, data_of, fired, is_replied, later_replies, phase, reaped, replied, replies_from, reply, reply_in, runs, same, submission, submits, unborn, waits, was_shut}
pub use Rattle.history.specs.Legal.{Fits, FitsOp, IsDue, Legal, MayCome, Setup, count_of, shut_for, ticks_of}
pub use Rattle.history.specs.declared.event.Event.{Event}
pub use Rattle.history.specs.declared.event.Event.TheVariants.{Arm, Begin, Count, Cut, Expire, Fire, FireMiss, Miss, Park, Reap, Reply, Settle, Sever, Submit, Take, Tick}
pub use Rattle.history.specs.declared.req.Req.{Req}
pub use Rattle.std.proofs.Common.{All, Bool, IsTrue, List, None, Option, SFits, Some, [], add-one, ap, arith, cond, drop, eq-eqb, eqb-true, false, get_or, get_or-set_other, get_or-set_same, if◌then◌else◌, inl, inr, leb-true, length, length-append, length-set, lt-ltb, ltb-false, ltb-true, max, mul-le-mul_right, nat_lt, ne_eqb, negsuc, not, of_z, pos, refl, replicate, rules, set, subst, suc, suc-mul, sym, true, true≢false, w32, w64, zero, ℕ, ℤ, ⊎_elim, ◌%◌, ◌&&◌, ◌*◌, ◌++◌, ◌+◌, ◌-◌, ◌/◌, ◌<◌, ◌==◌, ◌||◌, ◌↔◌, ◌∙◌, ◌∷◌, ◌≡◌, ◌≢◌, ◌≤◌, ◌⊎◌}
pub use Rattle.std.proofs.Math.Facts.{Fits-of_lt, sfits_to_z}
pub use Rattle.std.proofs.lemmas.Bool.{cases_lt, leb-false}
pub use Rattle.std.proofs.lemmas.List.{append-nil, append_assoc, at_drop_more, drop_all, get_or-append_right, nil_from_length}
pub use Rattle.std.specs.List.{slice_get}
pub use Rattle.std.specs.Mem.Slots.{slots_counts, slots_filled, slots_items, slots_len}
pub use Rattle.std.specs.Prelude.{IfErr, IfOk, vec_capacity}
pub use Rattle.steps.proofs.CellNumbers.{age_small, bits_are, bits_fit, first_cell, located, one_cell, one_result, one_word, other_age, other_cell}
pub use Rattle.steps.proofs.ClaimWords.{done_word, says_of}
pub use Rattle.steps.proofs.FactsRead.{low_facts, other_facts, own_facts, parts_of, parts_small, reaped_replied, row_small, same_facts}
pub use Rattle.steps.proofs.FreeCells.{before_it, free_later, reaped_as, reaped_later, same_noted}
pub use Rattle.steps.proofs.JournalGrowth.{Lasting, answers_concerns, counted_in, done_lasts, kind_lasts, lasts, legal_before, legal_tail, live_tail, open_lasts, placed_lasts, reaped_before, reaped_lasts, reaps, replied_lasts, replied_later, same_before, same_lent, same_submits, severed_lasts, still_data, still_replied, submission_lasts, submits_grow, submitted_in, was_reaped}
pub use Rattle.steps.proofs.NotesKept.{earlier_gone, earlier_reaped, lent_out, notes_are, reaped_born}
pub use Rattle.steps.proofs.OwnFacts.{never_asked, same_fired}
pub use Rattle.steps.proofs.ViewsKept.{submits_after, submitter_can}
pub use Rattle.steps.specs.{Ages, CellOk, Home, IsCell, IsSubmission, Keeps, MayBegin, Says, cause_bits, cells_in, claim_at, count_at, facts_at, over, place_of, reply_bits, request_at, ring_of, setup_of, slot_at, slots_of, total, word_of, words_of, AreFacts, TellsFacts, IsFree, IsReaped, NotesTell, Orderly, event_of, events_of, freed, lends, lent, noted, stores, count_in, count_notes, etime_in, facts_of, notes_of, outcome_of, row_number, ticks_in, AllSaw, AreMade, AreSteps, Begins, Ended, Extends, ExtendsAfter, ExtendsNoted, ExtendsTwice, IsDone, IsHeard, IsOneOf, IsSameSeat, IsStep, Knows, Looks, NoneOf, Owner, Saw, Shown, Vacant, hearing, holders, idle_one, next_poller, next_submitter, nobody, owner, owns, pollers, rings, seeing, stands_for, submitter_of, without_next, without_one, workers}
pub use Rattle.steps.specs.declared.line.Line.{Line}
pub use Rattle.steps.specs.declared.line.Line.TheVariants.{Did, Free, Freed, Hold, Lent, Noted}
pub use Rattle.steps.specs.declared.slot.Thing.{Thing}
pub use Rattle.steps.specs.declared.slot.Thing.TheVariants.{Full}
pub use Rattle.steps.specs.declared.view.Layout.{Layout}
pub use Rattle.steps.specs.declared.view.Role.{Role}
pub use Rattle.steps.specs.declared.view.Role.TheVariants.{Idle, Lending, Poller, Submitter}
pub use Rattle.steps.specs.declared.view.Step.{Step}
pub use Rattle.steps.specs.declared.view.View.{View}
pub use Rattle.work.proofs.CancelSearch.{canceled_fails, held_before, held_no_more, idle_still, steps_both}
pub use Rattle.work.proofs.GridRows.{cell_says, counts_at, located_is}
pub use Rattle.work.proofs.OwnEvents.{own_append, own_before, own_none, silent_own}
pub use Rattle.work.proofs.PassesKept.{extended_of, looked_of}
pub use Rattle.work.proofs.RunsKept.{took_both}
pub use Rattle.work.specs.{Facts, IsBoard, IsOf, share_of, AreCellCounts, AreCells, CanReach, HasRooms, Pass, Took, own_of, pass_of, seen_of}
pub use Rattle.work.specs.declared.grid.Cell.{Cell}
pub use lib.ListN.{get_elem?, get_or-replicate, length-replicate}
pub use mathlib.Core.Logic.{dite}
pub use mathlib.Core.Option.{some, some-injective}
pub use mir.Val.{bool_byte, to_z}
pub use native.Mathlib.Decide.{ℕ_discrete}
