use Rattle.gates.proofs.Common.{false, is_pending, length, map, passes, slot_of, ℕ, ◌-◌, ◌<◌, ◌≡◌, ◌≤◌}
use Rattle.gates.proofs.cells.first_pending.Given as goal

abbrev pub invariant-loop-j : goal.invariant-loop-j
invariant-loop-j l = (l.j ≤ length l.cells.items) × ((i : ℕ) → i < l.j → passes is_pending (map slot_of l.cells.items) i ≡ false)

abbrev pub decreases-loop-j : goal.decreases-loop-j
decreases-loop-j l = length l.cells.items - l.j
