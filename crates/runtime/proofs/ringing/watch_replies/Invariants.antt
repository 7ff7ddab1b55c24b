use Rattle.runtime.proofs.Common.{ArePending, HasFewerTimers, MayRing, RangOn, cares_of}
use Rattle.runtime.proofs.HeldBack.{Passed}
use Rattle.runtime.proofs.ringing.watch_replies.Given as goal

abbrev pub invariant-loop-n : goal.invariant-loop-n
invariant-loop-n l = record {
  on : RangOn l.board l.fn.state l.fn.lists l.fn.outbox l.state l.lists l.outbox;
  may : MayRing l.board l.state (cares_of l.lists) l.outbox;
  fewer : HasFewerTimers l.fn.lists l.lists;
  passed : Passed l.lists.watchers.items l._n l._n-end (ArePending l.fn.state.poller l.state.poller);
}
