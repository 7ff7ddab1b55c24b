use Rattle.checks.proofs.Common.{count_of, drop, map, rows_of, ◌+◌, ◌≡◌, ◌≤◌}
use Rattle.checks.proofs.counts.count_of.Given as goal

abbrev pub invariant-loop-one : goal.invariant-loop-one
invariant-loop-one l = record {
  value : l.count + count_of (rows_of l.table) (map rows_of (drop l.one-index l.tables)) ≡ count_of (rows_of l.table) (map rows_of l.tables);
  few : l.count ≤ l.one-index;
}
