use Rattle.event_count.proofs.Common.{AreNewWaiters, ◌≡◌}
use Rattle.event_count.proofs.event_count.cut_waiters.Given as goal

abbrev pub invariant-loop-number : goal.invariant-loop-number
invariant-loop-number l = (l.seat.table_id ≡ l.initial.seat.table_id) × (l.seat.me.0 ≡ (record l.initial.seat.me.0 { waiters = l._number })) × AreNewWaiters l.initial.seat.table_id l._number l.waiters.items
