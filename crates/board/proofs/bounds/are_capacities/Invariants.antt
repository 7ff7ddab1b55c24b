use Rattle.std.specs.Prelude.{◌≡◌, drop}
use Rattle.board.proofs.Common.{are_capacities}
use Rattle.board.proofs.bounds.are_capacities.Given as goal

-- the capacities so far are good
abbrev pub invariant-loop-capacity : goal.invariant-loop-capacity
invariant-loop-capacity l = are_capacities l.fn.pipes ≡ are_capacities (drop l.capacity-index l.fn.pipes)
