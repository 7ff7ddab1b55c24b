-- The words of other modules that the proofs of this crate use.
pub use Rattle.byteorder.specs.Endian.{little_bytes, little_from, little_number}
pub use Rattle.entry.specs.Entry.{Entry}
pub use Rattle.entry.specs.Text.{Says, cqe_text, invalid_of, is_plain, put, row_at, text}
pub use Rattle.entry.specs.declared.row.Fields.{Fields}
pub use Rattle.std.proofs.Common.{Bool, Decides, IsTrue, List, Some, [], ap, arith, bit_and, drop, eq-eqb, eqb-true, false, get_or, inl, inr, length, length-drop, lit<, lit≤, lt-ltb, nat_eq, nat_lt, negsuc, pos, refl, replicate, rules, slice_index, subst, suc, sym, take, true, zero, ℕ, ℤ, ◌%◌, ◌&&◌, ◌*◌, ◌++◌, ◌+◌, ◌-◌, ◌/◌, ◌<◌, ◌==◌, ◌^◌, ◌↔◌, ◌∙◌, ◌∷◌, ◌≡◌, ◌≤◌}
pub use Rattle.std.proofs.lemmas.Int.{of_z-to_z, to_z-of_z}
pub use Rattle.std.proofs.lemmas.List.{append-nil, drop-drop, drop_all, get_or-drop, take_all}
pub use Rattle.std.specs.Int.{byte_at, bytes_low_first, cast_signed, cast_unsigned, w32}
pub use Rattle.std.specs.Int.RustNames.{FitsSigned}
