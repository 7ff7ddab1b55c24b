use Rattle.std.specs.Prelude.{◌≡◌, max, drop}
use Rattle.board.proofs.Common.{counts, widest}
use Rattle.board.proofs.board.widest_of.Given as goal

-- what was seen, and what is left
abbrev pub invariant-loop-ring : goal.invariant-loop-ring
invariant-loop-ring l = max l.most (widest (counts (drop l.ring-index l.fn.rings))) ≡ widest (counts l.fn.rings)
