use Rattle.wheel.proofs.Common.{IsLeast, ◌+◌, ◌<◌, ◌≤◌}
use Rattle.wheel.proofs.timers.least_beside.Given as goal

abbrev pub invariant-loop-slot : goal.invariant-loop-slot
invariant-loop-slot g l = IsLeast l.slots l.slot l.best × (l.looks ≤ l.initial.looks + l.slot) × (l.known.slot < l.slot → l.looks + 1 ≤ l.initial.looks + l.slot)
