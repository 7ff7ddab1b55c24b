use Rattle.runtime.proofs.Common.{All, IsWaiterOf, arc_value, false, length, vec_capacity, ◌+◌, ◌≡◌, ◌≤◌}
use Rattle.runtime.proofs.parts.listeners_of.Given as goal

abbrev pub invariant-loop-waiter : goal.invariant-loop-waiter
invariant-loop-waiter l = record {
  waiters : All (λ w. IsWaiterOf (arc_value l.count) w × (w.entered ≡ false)) l.waiters.items;
  count : length l.listeners.items + length l.waiters.items ≡ length l.fn.waiters.items;
  room : length l.fn.waiters.items ≤ vec_capacity l.listeners;
}

abbrev pub decreases-loop-waiter : goal.decreases-loop-waiter
decreases-loop-waiter l = length l.waiters.items
