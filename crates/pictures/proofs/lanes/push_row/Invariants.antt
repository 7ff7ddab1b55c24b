use Rattle.pictures.proofs.Common.{drop, row_cells, ◌++◌, ◌≡◌}
use Rattle.pictures.proofs.lanes.push_row.Given as goal

abbrev pub invariant-loop-column : goal.invariant-loop-column
invariant-loop-column l = l.out.items ++ row_cells l.column (drop l.column l.widths) l.wanted l.text ≡ l.fn.out.items ++ row_cells 0 l.widths l.wanted l.text
