use Rattle.std.specs.Prelude.{◌≡◌, drop}
use Rattle.board.proofs.Common.{are_rings}
use Rattle.board.proofs.bounds.are_rings.Given as goal

-- the rings so far are good
abbrev pub invariant-loop-ring : goal.invariant-loop-ring
invariant-loop-ring l = are_rings l.fn.rings ≡ are_rings (drop l.ring-index l.fn.rings)
