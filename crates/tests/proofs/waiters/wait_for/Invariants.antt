use Rattle.std.proofs.Common.{◌≡◌, false}
use Rattle.tests.proofs.waiters.wait_for.Given as goal

abbrev pub invariant-loop : goal.invariant-loop
invariant-loop g l = (goal.iterator-loop g).can_next l.iterator' × (goal.iterator-loop g).is_finite l.iterator' × (l.waiter.table ≡ l.event_count) × (l.waiter.entered ≡ false)
