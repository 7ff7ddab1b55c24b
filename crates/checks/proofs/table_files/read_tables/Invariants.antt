-- The tables so far, each with its empty line, and the rest are the file; and the rest grows shorter.
use Rattle.checks.proofs.Common.{AreTables, length, map, rows_of, tables_text, ◌++◌, ◌≡◌}
use Rattle.checks.proofs.table_files.read_tables.Given as goal

abbrev pub invariant-loop-part : goal.invariant-loop-part
invariant-loop-part l = record {
  text : l.bytes ≡ tables_text l.script (map rows_of l.tables.items) ++ l.rest;
  are : AreTables l.script (map rows_of l.tables.items);
}

abbrev pub decreases-loop-part : goal.decreases-loop-part
decreases-loop-part l = length l.rest
