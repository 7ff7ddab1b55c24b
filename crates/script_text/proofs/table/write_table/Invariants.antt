use Rattle.std.specs.Slice.Iter.{iter_rest}
use Rattle.std.specs.Iterator.Adapters.{zip_first, zip_second}
use Rattle.script_text.proofs.Common.{shown_lines, table_text, ◌++◌, ◌≡◌}
use Rattle.script_text.proofs.table.write_table.Given as goal

abbrev pub invariant-loop-entry : goal.invariant-loop-entry
invariant-loop-entry l =
    l.out.items ++ table_text (iter_rest (zip_first l.entry-iterator)) (shown_lines (iter_rest (zip_second l.entry-iterator))) ≡ table_text l.script.entries.items (shown_lines l.table.lines.items)
