use Rattle.std.specs.Prelude.{◌+◌}
use Rattle.board.proofs.Common.{KnowsRow, Paid, Watched, owed}
use Rattle.board.proofs.intake.take_in.Given as goal

-- what was taken in so far was looked at, and paid for
abbrev pub invariant-loop-req : goal.invariant-loop-req
invariant-loop-req l = record {
  watched : Watched l.board l.fn.seat l.seat;
  knows : KnowsRow l.board.layout.cells l.seat.me.0.seen l.req.ring l.row;
  paid : Paid l.fn.seat.me.0 l.seat.me.0 (owed l.row (l.req.k + 1)) (owed l.fn.row (l.req.k + 1));
}

abbrev pub decreases-loop-req : goal.decreases-loop-req
decreases-loop-req l = owed l.row (l.req.k + 1)
