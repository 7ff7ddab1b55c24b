use Rattle.runtime.proofs.Common.{MayRing, RangOn, cares_of, clock_of, length, seen_of, ◌≡◌}
use Rattle.runtime.proofs.ringing.end_due.Given as goal

abbrev pub invariant-loop-req : goal.invariant-loop-req
invariant-loop-req l = record {
  on : RangOn l.board l.fn.state l.fn.lists l.fn.outbox l.state l.lists l.outbox;
  may : MayRing l.board l.state (cares_of l.lists) l.outbox;
  clock : l.now ≡ clock_of (seen_of l.state.poller);
}

abbrev pub decreases-loop-req : goal.decreases-loop-req
decreases-loop-req l = length l.lists.timers
