use Rattle.wheel.proofs.Common.{Some, Timer, length, slice_get, ℕ, ◌-◌, ◌<◌, ◌≡◌, ◌≤◌}
use Rattle.wheel.proofs.sorted.first_from.Given as goal

abbrev pub invariant-loop-low : goal.invariant-loop-low
invariant-loop-low l = (l.low ≤ l.high) × (l.high ≤ length l.timers.items) × ((j : ℕ) (t : Timer) → j < l.low → slice_get l.timers.items j ≡ Some t → t.at < l.at)

abbrev pub decreases-loop-low : goal.decreases-loop-low
decreases-loop-low l = l.high - l.low
