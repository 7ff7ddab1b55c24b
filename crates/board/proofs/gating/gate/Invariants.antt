use Rattle.std.specs.Prelude.{◌≡◌, ◌+◌, ◌*◌, true}
use Rattle.board.proofs.Common.{IsUnended, Paid, Watched, Watches, owed_back, pass_of, waiting}
use Rattle.board.proofs.gating.gate.Given as goal

-- the requests that were passed are paid for, and so is a look at one of its chain, of which it is remembered what it found
abbrev pub invariant-loop-gating : goal.invariant-loop-gating
invariant-loop-gating l = record {
  watched : Watched l.board l.fn.seat l.seat;
  watches : Watches l.board.layout.cells l.seat.me.0.seen l.req l.row;
  paid : Paid l.fn.seat.me.0 l.seat.me.0 (3 * waiting l.row + owed_back l.looked) (3 * waiting l.fn.row + 1);
  looked : l.looked ≡ true → IsUnended l.board.layout.cells l.req (pass_of l.fn.seat) (pass_of l.seat);
}

abbrev pub decreases-loop-gating : goal.decreases-loop-gating
decreases-loop-gating l = 2 * waiting l.row + owed_back l.looked
