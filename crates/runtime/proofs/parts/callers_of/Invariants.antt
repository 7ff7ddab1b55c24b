use Rattle.runtime.proofs.Common.{All, IsNotifierOf, arc_value, length, vec_capacity, ◌+◌, ◌≡◌, ◌≤◌}
use Rattle.runtime.proofs.parts.callers_of.Given as goal

abbrev pub invariant-loop-notifier : goal.invariant-loop-notifier
invariant-loop-notifier l = record {
  notifiers : All (λ n. IsNotifierOf (arc_value l.count) n) l.notifiers.items;
  count : length l.callers.items + length l.notifiers.items ≡ length l.fn.notifiers.items;
  room : length l.fn.notifiers.items ≤ vec_capacity l.callers;
}

abbrev pub decreases-loop-notifier : goal.decreases-loop-notifier
decreases-loop-notifier l = length l.notifiers.items
