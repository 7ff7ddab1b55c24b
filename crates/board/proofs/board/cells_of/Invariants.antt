use Rattle.std.specs.Prelude.{◌≡◌, drop, ◌++◌}
use Rattle.board.proofs.Common.{counts}
use Rattle.board.proofs.board.cells_of.Given as goal

-- the numbers so far, and those that are left, are all
abbrev pub invariant-loop-ring : goal.invariant-loop-ring
invariant-loop-ring l = l.cells.items ++ counts (drop l.ring-index l.fn.rings) ≡ counts l.fn.rings
