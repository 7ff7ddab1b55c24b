use Rattle.pictures.proofs.Common.{drop, head_cells, ◌++◌, ◌≡◌}
use Rattle.pictures.proofs.lanes.push_head.Given as goal

abbrev pub invariant-loop-column : goal.invariant-loop-column
invariant-loop-column l = l.out.items ++ head_cells l.columns.rings l.columns.workers l.column (drop l.column l.widths) ≡ l.fn.out.items ++ head_cells l.columns.rings l.columns.workers 0 l.widths
