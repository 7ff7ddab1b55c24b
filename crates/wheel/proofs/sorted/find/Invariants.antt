use Rattle.wheel.proofs.Common.{Some, Timer, false, length, same, slice_get, ℕ, ◌-◌, ◌<◌, ◌≡◌, ◌≤◌}
use Rattle.wheel.proofs.sorted.find.Given as goal

abbrev pub invariant-loop-k : goal.invariant-loop-k
invariant-loop-k l = (l.k ≤ length l.timers.items) × ((j : ℕ) (t : Timer) → l.from ≤ j → j < l.k → slice_get l.timers.items j ≡ Some t → same t.req l.req ≡ false)

abbrev pub decreases-loop-k : goal.decreases-loop-k
decreases-loop-k l = length l.timers.items - l.k
