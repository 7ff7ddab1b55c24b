use Rattle.std.specs.VecDeque.{deque_capacity}
use Rattle.gates.proofs.Common.{LinkedAt, length, map, slice_get, slot_of, ℕ, ◌-◌, ◌<◌, ◌≡◌, ◌≢◌, ◌≤◌}
use Rattle.gates.proofs.cells.spread.Given as goal

abbrev pub invariant-loop-j : goal.invariant-loop-j
invariant-loop-j l =
    (l.from ≤ l.j) × (l.j < length l.cells.items) × ((i : ℕ) → i ≢ l.j → LinkedAt l.lost l.cells.items i)
    × (map slot_of l.cells.items ≡ map slot_of l.fn.cells.items) × ((i : ℕ) → i ≤ l.from → slice_get l.cells.items i ≡ slice_get l.fn.cells.items i)
    × (deque_capacity l.cells ≡ deque_capacity l.fn.cells) × (length l.cells.items ≡ length l.fn.cells.items)

abbrev pub decreases-loop-j : goal.decreases-loop-j
decreases-loop-j l = length l.fn.cells.items - l.j
