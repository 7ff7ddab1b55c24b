-- The words of other modules that the proofs of this crate use.
pub use Rattle.answers.specs.Answered.{Answered, Does, DoesBoth, IsPipe, IsSound, RepliesBoth, is_plain, reply_without}
pub use Rattle.answers.specs.NamedEnds.{IsSide, JoinsPipes, UsesBoth, UsesNone, UsesOne, are_of_one, gives, takes}
pub use Rattle.entry.specs.declared.op.Op.{Op}
pub use Rattle.entry.specs.declared.op.Op.TheVariants.{AsyncCancel, Close, Invalid, LinkTimeout, Nop, PollAdd, Read, Splice, Timeout, TimeoutRemove, Write}
pub use Rattle.history.specs.{Answer, OpAnswers, bad_end, bare, close_of, is_pipe, later, level_at, now, poll_of, read_from, splice_into, splice_of, with_front, write_to, End, Flow, contents, end_of, flow, flows, given_at, no_end, offered, read_end, reads, size, write_end, writes, is_at, uses_at}
pub use Rattle.history.specs.declared.event.Event.{Event}
pub use Rattle.history.specs.declared.req.Req.{Req}
pub use Rattle.pipe.specs.Pipe.{Conduit}
pub use Rattle.std.proofs.Common.{Bool, List, None, Option, SFits, Some, [], ap, append-nil, arith, bit_and, bit_or, cond, drop, eq-eqb, eqb-true, false, inl, inr, length, ltb-true, min, nat_le, nat_lt, ne_eqb, negsuc, not, of_z, pos, refl, rules, slice_index, subst, sym, take, to_z, true, true≢false, w32, ℕ, ℤ, ⊎_elim, ◌&&◌, ◌++◌, ◌+◌, ◌-ℤ◌, ◌<◌, ◌==◌, ◌||◌, ◌∙◌, ◌≡◌, ◌≢◌, ◌≤◌, ◌⊎◌}
pub use Rattle.std.proofs.lemmas.Bool.{and_left, and_right, cases_Bool, lt-ltb, or_cases}
pub use Rattle.std.proofs.lemmas.Int.{to_z-of_z, to_z_pos}
