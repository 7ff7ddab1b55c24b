use Rattle.std.specs.Prelude.{◌≡◌, length}
use Rattle.board.proofs.Common.{AreOf, Facts, hearing_all}
use Rattle.board.proofs.end.hear_submitters.Given as goal

-- the seat heard those that are gone
abbrev pub invariant-loop-submitter : goal.invariant-loop-submitter
invariant-loop-submitter l = record {
  ours : (b : Facts) × (b.table ≡ l.words.table_id) × AreOf b l.submitters.items;
  table : l.seat.table_id ≡ l.fn.seat.table_id;
  role : l.seat.me.0.role ≡ l.fn.seat.me.0.role;
  bare : l.seat.me.1 ≡ l.fn.seat.me.1;
  heard : hearing_all l.seat.me.0 l.submitters.items ≡ hearing_all l.fn.seat.me.0 l.fn.submitters.items;
}

abbrev pub decreases-loop-submitter : goal.decreases-loop-submitter
decreases-loop-submitter l = length l.submitters.items
