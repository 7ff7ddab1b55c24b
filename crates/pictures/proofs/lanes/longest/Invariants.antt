use Rattle.pictures.proofs.Common.{drop, longest, map, max, shown, ◌≡◌}
use Rattle.pictures.proofs.lanes.longest.Given as goal

abbrev pub invariant-loop-mark : goal.invariant-loop-mark
invariant-loop-mark l = max l.most (longest l.columns.rings l.columns.workers l.column (map shown (drop l.mark-index l.marks))) ≡ longest l.columns.rings l.columns.workers l.column (map shown l.marks)
