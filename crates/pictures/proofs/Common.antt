-- The words of other modules that the proofs of this crate use.
pub use Rattle.pictures.specs.{participants, step_text, steps, event_data, events_after, explained_data, history_data, json_text, listed, reply_data, row_data, rows_data, table_data, tables_data, counted_data, verdict_data, marks, marks_after, place_of, shown, workers_after, workers_in, column_of, head_cells, longest, row_cells, rows, rule_cells, width_of, widths, widths_from, explained_of, counted_of, verdict_of, explained_lines, counts_lines, verdict_lines}
pub use Rattle.script.specs.Rows.{rows_of}
pub use Rattle.script_text.specs.TableText.{shown_lines, table_text}
pub use Rattle.serde_json.specs.Data.{Data}
pub use Rattle.serde_json.specs.View.{items_of, view}
pub use Rattle.serde_json.specs.Written.{has_float, items_have_float}
pub use Rattle.std.proofs.Common.{Bool, List, [], ap, append_assoc, ap₂, arith, codes, drop, false, get_or, inl, inr, length, map, max, negsuc, pos, refl, replicate, rules, subst, suc, sym, take, ℕ, ℤ, ◌++◌, ◌+◌, ◌-◌, ◌<◌, ◌∙◌, ◌∷◌, ◌≡◌, ◌≤◌}
pub use Rattle.std.specs.Prelude.{IfOk, None, OnOk, Option, Some, decimal, ◌||◌, ◌⊎◌}
pub use Rattle.std.specs.String.{string_bytes}
