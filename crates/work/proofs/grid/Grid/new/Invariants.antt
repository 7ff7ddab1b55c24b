use Rattle.std.specs.Prelude.{◌≡◌, take}
use Rattle.work.proofs.Common.{RowsFrom, cells_of, total}
use Rattle.work.proofs.grid.Grid.new.Given as goal

-- the rows so far are those of the numbers so far, one after the other
abbrev pub invariant-loop-cells : goal.invariant-loop-cells
invariant-loop-cells l = (cells_of l.rows.items ≡ take l.cells-index l.fn.cells) × RowsFrom 0 l.rows.items × (l.first ≡ total (cells_of l.rows.items))
