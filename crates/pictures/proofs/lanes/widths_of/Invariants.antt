use Rattle.pictures.proofs.Common.{map, shown, widths, widths_from, ◌++◌, ◌+◌, ◌-◌, ◌≡◌}
use Rattle.pictures.proofs.lanes.widths_of.Given as goal

abbrev pub invariant-loop-column : goal.invariant-loop-column
invariant-loop-column l = l.made.items ++ widths_from l.columns.rings l.columns.workers (map shown l.marks) l.column (l.columns.rings + l.columns.workers + 2 + 1 - l.column) ≡ widths l.columns.rings l.columns.workers (map shown l.marks)
