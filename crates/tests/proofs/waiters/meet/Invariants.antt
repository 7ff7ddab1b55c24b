use Rattle.std.proofs.Common.{◌≡◌, false}
use Rattle.tests.proofs.waiters.meet.Given as goal

abbrev pub invariant-loop-meeting : goal.invariant-loop-meeting
invariant-loop-meeting g l = (l.waiter.table ≡ l.event_count) × (l.waiter.entered ≡ false) × (l.notifier.table ≡ l.event_count)
