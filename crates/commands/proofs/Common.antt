-- The words of other modules that the proofs of this crate use.
pub use Rattle.commands.specs.{AppendsSome, AreAll, PutsCounts, Reads, number_line, tables_text, text_of, AreRuns, AreVerdicts, IsLookText, IsRunsText, PrintsOf, none_text, runs_text, verdicts_status, AreRead, Known, given_of}
pub use Rattle.script.specs.Rows.{rows_of}
pub use Rattle.script.specs.declared.script.Script.{Script}
pub use Rattle.std.proofs.Common.{Bool, List, [], add-one, ap, append_assoc, arith, codes, drop, false, get_or, inl, inr, length, length-append, map, refl, reverse, subst, suc, sym, take, true, true≢false, vec_len, zero, ℕ, ℤ, ◌++◌, ◌+◌, ◌<◌, ◌↔◌, ◌∙◌, ◌∷◌, ◌≡◌, ◌≤◌, ◌⊎◌}
pub use Rattle.std.proofs.KnownBytes.{Keeps-refl}
pub use Rattle.std.proofs.lemmas.Result.{IfErr-weaker, IfOk-weaker, err_from_is_err_and}
pub use Rattle.std.specs.Io.KnownBytes.{Appends, Keeps}
pub use Rattle.std.specs.Prelude.{Err, IfErr, IfOk, IsTrue, None, Ok, OnErr, OnOk, Option, Result, Some, if◌then◌else◌, unwrap_or, ◌&&◌}
