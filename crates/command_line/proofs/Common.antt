-- The words of other modules that the proofs of this crate use.
pub use Rattle.clap.proofs.WalkLemmas.{first_value-rows, one_text-rows, raw_values-rows}
pub use Rattle.clap.specs.Words.{AddsArg, AddsSubcommand, App, ReadsOne, Row, Rule, Text, fault_of, found_of, is_simple, is_simple_and_free, new_app, one_text, rows_of, subcommand_name_of, subcommand_of, subcommand_rows, subcommand_rows_of, with_rule, with_subcommand}
pub use Rattle.command_line.specs.CommandLine.{Asks, AsksFor, IsApp, IsFlag, IsRead, bare_app, check_app, history_app, outcomes_app, ringrun, run_app}
pub use Rattle.std.proofs.Common.{Bool, Err, List, None, Ok, Some, [], ap, ap₂, arith, codes, false, map, refl, slice_index, subst, sym, true, true≢false, ℕ, ◌<◌, ◌^◌, ◌∙◌, ◌≡◌}
pub use Rattle.std.proofs.lemmas.Option.{none-some}
pub use Rattle.std.proofs.lemmas.Result.{IfOk-weaker, err_from_is_err_and}
pub use Rattle.std.specs.Borrow.{Bor}
pub use Rattle.std.specs.Prelude.{Box, Option, Result, decimal, is_ok, option_map, unwrap_or}
pub use Rattle.std.specs.Str.Parse.{ExplainsUnsignedError, HasUnsignedDigitsIfOk, ParsesUnsigned}
