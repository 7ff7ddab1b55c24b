use Rattle.pictures.proofs.Common.{drop, map, rows, shown, ◌++◌, ◌≡◌}
use Rattle.pictures.proofs.lanes.push_rows.Given as goal

abbrev pub invariant-loop-mark : goal.invariant-loop-mark
invariant-loop-mark l = l.out.items ++ rows l.columns.rings l.columns.workers l.widths (map shown (drop l.mark-index l.marks)) ≡ l.fn.out.items ++ rows l.columns.rings l.columns.workers l.widths (map shown l.marks)
