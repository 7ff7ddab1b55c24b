-- The words of other modules that the proofs of this crate use.
pub use Rattle.entry.specs.Entry.{Entry, drains, fails_op}
pub use Rattle.entry.specs.declared.op.Op.{Op}
pub use Rattle.entry.specs.declared.op.Op.TheVariants.{AsyncCancel, Close, Invalid, LinkTimeout, PollAdd, Read, Splice, Timeout, TimeoutRemove, Write}
pub use Rattle.history.proofs.Catches.{answers_one, missed_in, one_answer, one_answers, taken_count_in, uncaught}
pub use Rattle.history.proofs.Requests.{and_left, and_right, bool_cases, not_true}
pub use Rattle.history.specs.{AimsAt, AllTried, Answer, CancelAnswers, CancelBy, IsFirst, Matches, MayHit, NoneLeft, OpAnswers, asks_for, bad_end, is_all, is_pipe, later, now, read_from, splice_into, splice_of, write_to, IsBefore, IsClear, IsTarget, Open, Severed, gate_of, hosts, is_link_timeout, is_link_timeout_in, is_timeout, is_timer, joins, placed, placed_behind, placed_from, previous, severs, Cause, Hit, IsIdle, IsPending, IsReplied, Phase, Submitted, adds_to, after_reap, armed, by_settle, clock_of, data_of, fired, has_missed, hit, nothing, phase, replied, reply, reply_in, runs, same, submission, submits, took, waits, was_shut, End, Flow, closes, content, contents, end_of, flow, flows, given_at, is_zero, no_end, offered, read_end, reads, size, untouched, write_end, writes, Catch, Held, Standing, bit, catch_in, held, held_words, none_yet, pipes_words, requests_words, rings_words, standing, standing_words, state_of, with_missed, with_took}
pub use Rattle.history.specs.Legal.{Fits, IsDue, Legal, MayCome, Setup, count_of, shut_for, ticks_of}
pub use Rattle.history.specs.declared.event.Event.{Event}
pub use Rattle.history.specs.declared.event.Event.TheVariants.{Arm, Begin, Count, Cut, Expire, Fire, FireMiss, Miss, Park, Reap, Reply, Settle, Sever, Shut, Submit, Take}
pub use Rattle.history.specs.declared.req.Req.{Req}
pub use Rattle.model.specs.Agrees.{Agrees, Carries, Decided, Decision, IsNext, MayFollow, PipeIs, Refuses}
pub use Rattle.model.specs.{answer_by, answer_in, op_answer, aims_as, aims_at, answer_all, answer_cancel, answer_one, comes_upon, is_escaped, is_none, may_miss, may_take, untried, Listed, any_below, asked_for, blocks, chain_done, clear_in, drains_of, held_back, lists, pending_of, reply_in_of, severed_in, severs_at, severs_by, wanted, empty_pipe, fresh, IsNear, back_at, back_in, back_other, back_to, is_other, ArePacked, below_first, packed, packed_in, packed_word, unpacked, bytes_in, moved, moved_over, put_into, put_pipe_at, put_reply, closed_at, taken_from, is_step, may_step, put_step, ring_of, contents_words, held_at, held_of, row_words, rows_words, standing_at, words_of}
pub use Rattle.model.specs.Content.{Content, bytes_at, bytes_of, caps_of, flow_at_of, flow_in, flow_of}
pub use Rattle.model.specs.Machine.{Machine, setup_of}
pub use Rattle.model.specs.Moves.{arms, born, cancelled, counted, counts_up, falls_due, gate_in, is_answered, is_armed, is_done, is_due, is_idle, is_replied, is_running, is_waits, later_answered, may_arm, may_begin, may_count, may_cut, may_expire, may_fire, may_fire_miss, may_park, may_reap, may_settle, may_sever, open_in, placed_as, put, put_at, put_fired, put_found, put_reaped, put_settled, put_stage, put_taken, runs_in, runs_of, runs_out, taken_out, timed_out}
pub use Rattle.model.specs.Run.{Run}
pub use Rattle.model.specs.Seen.{Seen, find, fired_of, found_in, handed_at, handed_in, handed_of, is_pending, placed_in, reply_at, seen, seen_of, stage_at, stage_of, with_op}
pub use Rattle.model.specs.declared.request.Request.{Request}
pub use Rattle.model.specs.declared.request.RequestStage.{RequestStage}
pub use Rattle.model.specs.declared.request.RequestStage.TheVariants.{Armed, Reaped, Replied, Runs, Waits}
pub use Rattle.std.proofs.Common.{Bool, List, None, Option, SFits, Some, [], ap, append-nil, append_assoc, arith, cond, drop, eq-eqb, eqb-true, false, get_or, get_or-drop, inl, inr, length, length-append, length-drop, lit≤, map, nat_le, nat_lt, negsuc, not, of_z, pos, refl, rules, set, sub-one, subst, suc, sym, take, take_all, to_z, true, true≢false, w32, zero, ℕ, ℤ, ⊎_elim, ◌%◌, ◌&&◌, ◌*◌, ◌++◌, ◌+◌, ◌-◌, ◌/◌, ◌<◌, ◌==◌, ◌||◌, ◌∙◌, ◌∷◌, ◌≡◌, ◌≤◌, ◌⊎◌}
pub use Rattle.std.proofs.Math.ListN.{length-set}
pub use Rattle.std.proofs.Math.Nat.{mod-add-div}
pub use Rattle.std.proofs.lemmas.Bool.{and_parts, cases_lt, le-leb, le-ltb, leb-true, lt-ltb, ltb-true}
pub use Rattle.std.proofs.lemmas.Grind.{common_steps}
pub use Rattle.std.proofs.lemmas.Int.{to_z-of_z}
pub use Rattle.std.proofs.lemmas.List.{length-map, set-get_or}
pub use Rattle.std.proofs.lemmas.Option.{get_or_from_slice_get, slice_get-get_or, slice_get-map, slice_get_past, slice_get_read, slice_get_within}
pub use Rattle.std.specs.List.{filter, list_all, list_any, slice_get}
pub use Rattle.std.specs.Prelude.{IfOk, IfSome, OnErr, OnOk, slice_index}
pub use Rattle.std.specs.declared.result.Result.{Result}
pub use Rattle.std.specs.declared.result.Result.TheVariants.{Err, Ok}
