use Rattle.event_count.proofs.Common.{AreNewNotifiers, ◌≡◌}
use Rattle.event_count.proofs.event_count.cut_notifiers.Given as goal

abbrev pub invariant-loop-number : goal.invariant-loop-number
invariant-loop-number l = (l.seat.table_id ≡ l.initial.seat.table_id) × (l.seat.me.0 ≡ (record l.initial.seat.me.0 { notifiers = l._number })) × AreNewNotifiers l.initial.seat.table_id l._number l.notifiers.items
