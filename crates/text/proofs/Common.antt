-- The words of other modules that the proofs of this crate use.
pub use Rattle.std.proofs.Common.{Bool, Err, IfOk, IsSomeAnd, List, None, Ok, Option, Result, Some, [], ap, append_assoc, arith, drop, false, inl, inr, length, length-append, negsuc, of_z, pos, refl, slice_index, suc, sym, take, to_z, true, zero, ℕ, ℤ, ◌&&◌, ◌*◌, ◌++◌, ◌+◌, ◌/◌, ◌<◌, ◌^◌, ◌∙◌, ◌∷◌, ◌≡◌, ◌≤◌}
pub use Rattle.std.proofs.lemmas.Bool.Decides.{Decides-eqb}
pub use Rattle.std.proofs.lemmas.Fmt.{IsAscii-decimal, IsAscii-signed, decimal_is_IsNumeral, parse-decimal, parse-signed_decimal}
pub use Rattle.std.proofs.lemmas.Slice.Eq.{slice_eq-Decides, strip_prefix_is}
pub use Rattle.std.specs.Fmt.{decimal, signed_decimal}
pub use Rattle.std.specs.Int.{IsInRange, w32}
pub use Rattle.std.specs.Prelude.{FitsSigned, IfSome, nat_eq, nat_lt, ◌⊎◌}
pub use Rattle.text.specs.Line.{IsCut, IsCutByte, data_text, line_text, shown_count}
