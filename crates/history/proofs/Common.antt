-- The words of other modules that the proofs of this crate use.
pub use Rattle.entry.specs.Entry.{Entry}
pub use Rattle.entry.specs.declared.op.Op.{Op}
pub use Rattle.entry.specs.declared.op.Op.TheVariants.{AsyncCancel, Close, Invalid, LinkTimeout, Nop, PollAdd, Read, Splice, Timeout, TimeoutRemove, Write}
pub use Rattle.history.specs.Answers.{AimsAt, AllTried, Answer, Answers, CancelAnswers, CancelBy, IsFirst, Matches, MayHit, NoneLeft, OpAnswers, at_end, bad_end, bare, is_all, is_pipe, later, level_at, now, read_from, splice_into, splice_of, with_front, write_to}
pub use Rattle.history.specs.{IsBefore, IsChainBefore, IsChainDone, IsChained, IsClear, IsPlaced, IsTarget, Open, Severed, before_in, gate_of, is_link_timeout_in, is_timeout, is_timer, joins, placed, placed_from, previous, Cause, Hit, IsIdle, IsPending, IsReplied, Phase, Submitted, adds_to, after_reap, answers, armed, becomes, clock_of, concerns, data_in, data_of, fired, fires, hands_in, has_missed, hit, hits, is_replied, later_replies, missed, nothing, phase, reaped, replied, replies_from, reply, reply_in, runs, same, shuts, submission, submits, taken_count, ticks, took, unborn, waits, was_shut, End, Flow, closes, content, contents, end_of, flow, flows, flows_as, given_at, is_zero, moves, no_end, offered, read_end, reads, size, write_end, writes, Catch, Held, IsReap, Standing, absent, answered, bit, catch_in, catch_words, held, held_in, held_words, none_yet, pipes_words, put_in, requests_words, rings_words, running, standing, standing_in, standing_words, state_of, timed, waiting, with_missed, with_took}
pub use Rattle.history.specs.Legal.{Allowed, IsDue, IsPlacedAs, Legal, MayCome, Setup, count_of}
pub use Rattle.history.specs.declared.event.Event.{Event}
pub use Rattle.history.specs.declared.event.Event.TheVariants.{Arm, Begin, Count, Cut, Expire, Fire, FireMiss, Miss, Park, Reap, Reply, Settle, Sever, Shut, Submit, Take, Tick}
pub use Rattle.history.specs.declared.req.Req.{Req}
pub use Rattle.std.proofs.Common.{Bool, List, None, Option, Some, [], ap, append-nil, append_assoc, arith, cond, drop, eq-eqb, eqb, eqb-true, false, inl, inr, length, length-append, length-drop, min, nat_le, nat_lt, negsuc, not, pos, refl, subst, suc, sym, take, true, true≢false, zero, ℕ, ℤ, ⊎_elim, ◌&&◌, ◌++◌, ◌+◌, ◌-◌, ◌<◌, ◌==◌, ◌||◌, ◌∙◌, ◌∷◌, ◌≡◌, ◌≤◌, ◌⊎◌}
pub use Rattle.std.proofs.lemmas.Bool.{cases_lt, lt-ltb, ltb-true, ne_eqb}
pub use Rattle.std.specs.Prelude.{slice_index}
