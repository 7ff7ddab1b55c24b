use Rattle.gates.proofs.Common.{false, held_at, length, true, ◌-◌, ◌<◌, ◌≡◌, ◌≤◌}
use Rattle.gates.proofs.cells.first_held.Given as goal

abbrev pub invariant-loop-middle : goal.invariant-loop-middle
invariant-loop-middle l =
    (l.high < length l.cells.items) × (l.fn.low ≤ l.low) × (l.high ≤ l.fn.high) × (l.fn.low < l.fn.high → l.low < l.high)
    × (held_at l.cells.items l.fn.low ≡ false → held_at l.cells.items l.low ≡ false)
    × (held_at l.cells.items l.fn.high ≡ true → held_at l.cells.items l.high ≡ true)

abbrev pub decreases-loop-middle : goal.decreases-loop-middle
decreases-loop-middle l = l.high - l.low
