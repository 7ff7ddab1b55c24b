-- The text so far, and that of the tables that are left, are the whole text.
use Rattle.commands.proofs.Common.{drop, map, rows_of, tables_text, ◌++◌, ◌≡◌}
use Rattle.commands.proofs.listing.counted_text.Given as goal

abbrev pub invariant-loop-table : goal.invariant-loop-table
invariant-loop-table l = l.text.items ++ tables_text l.script (map rows_of (drop l.table-index l.tables)) ≡ tables_text l.script (map rows_of l.tables)
