use Rattle.checks.proofs.Common.{drop, has_rows, map, rows_of, ◌≡◌}
use Rattle.checks.proofs.counts.has_rows.Given as goal

abbrev pub invariant-loop-one : goal.invariant-loop-one
invariant-loop-one l = has_rows (rows_of l.table) (map rows_of (drop l.one-index l.tables)) ≡ has_rows (rows_of l.table) (map rows_of l.tables)
