use Rattle.std.specs.Prelude.{◌≡◌, length}
use Rattle.board.proofs.Common.{AreOf, Facts, hearing_all}
use Rattle.board.proofs.end.hear_workers.Given as goal

-- the seat heard those that are gone
abbrev pub invariant-loop-worker : goal.invariant-loop-worker
invariant-loop-worker l = record {
  ours : (b : Facts) × (b.table ≡ l.words.table_id) × AreOf b l.workers.items;
  table : l.seat.table_id ≡ l.fn.seat.table_id;
  role : l.seat.me.0.role ≡ l.fn.seat.me.0.role;
  bare : l.seat.me.1 ≡ l.fn.seat.me.1;
  heard : hearing_all l.seat.me.0 l.workers.items ≡ hearing_all l.fn.seat.me.0 l.fn.workers.items;
}

abbrev pub decreases-loop-worker : goal.decreases-loop-worker
decreases-loop-worker l = length l.workers.items
