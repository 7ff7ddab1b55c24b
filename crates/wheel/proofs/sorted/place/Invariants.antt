use Rattle.wheel.proofs.Common.{Some, Timer, length, slice_get, ◌<◌, ◌≡◌, ◌≤◌}
use Rattle.wheel.proofs.sorted.place.Given as goal

abbrev pub invariant-loop-k : goal.invariant-loop-k
invariant-loop-k l = (l.k ≤ length l.timers.items) × ((t : Timer) → slice_get l.timers.items l.k ≡ Some t → l.at < t.at)

abbrev pub decreases-loop-k : goal.decreases-loop-k
decreases-loop-k l = l.k
