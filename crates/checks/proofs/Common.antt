-- The words of other modules that the proofs of this crate use.
pub use Rattle.checks.specs.{AreTables, IsPartFault, IsTablesFault, IsTablesText, count_text, tables_text, count_of, has_rows, is_equal, counted, counts_of}
pub use Rattle.explore.specs.Courses.{Among}
pub use Rattle.script.specs.Rows.{row_cmp, rows_cmp, rows_of}
pub use Rattle.std.proofs.Common.{List, [], ap, append_assoc, arith, codes, drop, false, get_or, inl, inr, length, length-append, map, refl, subst, suc, sym, take, true≢false, vec_len, zero, ℕ, ℤ, ⊎_elim, ◌++◌, ◌+◌, ◌<◌, ◌∙◌, ◌∷◌, ◌≡◌, ◌≤◌, ◌⊎◌}
pub use Rattle.std.proofs.lemmas.List.{append-nil, drop_all, length-map, map_push, nil_from_length}
