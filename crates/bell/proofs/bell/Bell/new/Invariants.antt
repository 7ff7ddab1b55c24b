use Rattle.bell.proofs.Common.{get_elem?, length, new_ringing, opening_view, some, ℕ, ◌<◌, ◌≡◌}
use Rattle.bell.proofs.bell.Bell.new.Given as goal

abbrev pub invariant-loop-ring : goal.invariant-loop-ring
invariant-loop-ring l = (l.seat.table_id ≡ l.initial.seat.table_id) × (l.seat.me.0 ≡ (record (opening_view l.initial.rings) { rings = l.ring })) × (length l.ringers.items ≡ l.ring) × ((r : ℕ) → r < l.ring → get_elem? l.ringers.items r ≡ some (new_ringing l.initial.seat.table_id r))
