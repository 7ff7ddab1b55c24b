use Rattle.event_count.proofs.Common.{◌≡◌}
use Rattle.event_count.proofs.waiter.wait_for_notice.Given as goal

abbrev pub invariant-loop : goal.invariant-loop
invariant-loop g l = (goal.iterator-loop g).can_next l.iterator' × (goal.iterator-loop g).is_finite l.iterator' × (l.seat.table_id ≡ l.initial.seat.table_id) × (l.seat.me.0.role ≡ l.initial.seat.me.0.role) × (l.seat.me.0.seen ≡ l.initial.seat.me.0.seen)
