use Rattle.gates.proofs.Common.{nearest_in, ◌≡◌, ◌≤◌}
use Rattle.gates.proofs.cells.last_pending.Given as goal

abbrev pub invariant-loop-m : goal.invariant-loop-m
invariant-loop-m l = (l.m ≤ l.j) × (nearest_in l.cells.items l.m ≡ nearest_in l.cells.items l.j)

abbrev pub decreases-loop-m : goal.decreases-loop-m
decreases-loop-m l = l.m
