-- The cells of the rings as a table of rows.
use Rattle.std.specs.Prelude.{◌≡◌, ℕ, ◌+◌, ◌<◌, ◌≤◌, List, [], ◌∷◌}
use Rattle.work.specs.declared.grid.RingCells.{RingCells}
use Rattle.steps.specs.Cells.{total}

abbrev pub cells_of : List RingCells → List ℕ
cells_of [] = []
cells_of (r ∷ rows) = r.cells ∷ cells_of rows

-- each row begins where those before it end, and has a cell
abbrev pub RowsFrom : ℕ → List RingCells → Type 0
RowsFrom n [] = n ≤ 16384
RowsFrom n (r ∷ rows) = (r.first ≡ n) × (0 < r.cells) × (r.cells ≤ 1024) × RowsFrom (n + r.cells) rows

abbrev pub IsGrid : List RingCells → Type 0
IsGrid rows = RowsFrom 0 rows

abbrev pub AreCellCounts : List ℕ → Type 0
AreCellCounts [] = Unit {0}
AreCellCounts (n ∷ K) = (0 < n) × (n ≤ 1024) × AreCellCounts K

-- numbers of cells that rings may have: 1 to 1,024 each, and 16,384 in all
abbrev pub AreCells : List ℕ → Type 0
AreCells K = AreCellCounts K × (total K ≤ 16384)
