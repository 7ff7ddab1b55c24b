-- The lines so far, and those that are left, are all.
use Rattle.std.specs.Slice.Iter.{iter_rest}
use Rattle.std.specs.Iterator.Adapters.{zip_first, zip_second}
use Rattle.pictures.proofs.Common.{map, rows_data, rows_of, shown_lines, view, ◌++◌, ◌≡◌}
use Rattle.pictures.proofs.values.table_value.Given as goal

abbrev pub invariant-loop-entry : goal.invariant-loop-entry
invariant-loop-entry l =
    map view l.rows.items ++ rows_data (iter_rest (zip_first l.entry-iterator)) (shown_lines (iter_rest (zip_second l.entry-iterator))) ≡ rows_data l.script.entries.items (rows_of l.table)
