-- The words of other modules that the proofs of this crate use.
pub use Rattle.entry.specs.declared.op.Op.TheVariants.{AsyncCancel, Close, Invalid, LinkTimeout, Nop, PollAdd, Read, Splice, Timeout, TimeoutRemove, Write}
pub use Rattle.prep.specs.Built.{IsOfRow, flagged, is_place, link_timeout_op, offset_of, plain, poll_op, read_op, splice_op, timeout_count_op, write_op}
pub use Rattle.std.proofs.Common.{Bool, IsTrue, ap, arith, bit_and, eqb-true, false, if◌then◌else◌, inl, inr, nat_lt, negsuc, pos, refl, sym, true, ℕ, ℤ, ◌&&◌, ◌==◌, ◌||◌, ◌∙◌, ◌≡◌, ◌⊎◌}
pub use Rattle.std.proofs.lemmas.Bool.{false≢true, lt-ltb}
pub use Rattle.std.proofs.lemmas.Int.{to_z-of_z}
pub use Rattle.std.specs.Int.{w32}
