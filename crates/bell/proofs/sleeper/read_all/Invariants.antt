use Rattle.bell.proofs.Common.{◌≡◌}
use Rattle.bell.proofs.AllTails.{IsReading}
use Rattle.bell.proofs.sleeper.read_all.Given as goal

abbrev pub invariant-loop-ring : goal.invariant-loop-ring
invariant-loop-ring l = (l.seat.table_id ≡ l.initial.seat.table_id) × IsReading l.initial.seat.me.0 l.initial.tails.items l.ring l.seat.me.0 l.tails.items l.changed
