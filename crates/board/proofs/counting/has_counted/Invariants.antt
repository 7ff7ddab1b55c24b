use Rattle.std.specs.Prelude.{◌-◌}
use Rattle.board.proofs.Countings.{IsCounted}
use Rattle.board.proofs.counting.has_counted.Given as goal

-- the requests before k were looked at
abbrev pub invariant-loop-k : goal.invariant-loop-k
invariant-loop-k l = IsCounted l.board l.fn.seat l.seat l.req l.k l.found

abbrev pub decreases-loop-k : goal.decreases-loop-k
decreases-loop-k l = l.end - l.k
