use Rattle.runtime.proofs.Common.{HasFewerTimers, IsAt, LooksAfter, WentOn, cares_of, length, ◌≡◌}
use Rattle.runtime.proofs.ringing.has_timers.Given as goal

abbrev pub invariant-loop-req : goal.invariant-loop-req
invariant-loop-req l = record {
  went_on : WentOn l.board l.fn.state l.state;
  at : IsAt l.board l.state;
  cared : LooksAfter (cares_of l.lists) l.state.poller.view.seen;
  same : (l.lists.rings ≡ l.fn.lists.rings) × (l.lists.waiting ≡ l.fn.lists.waiting) × (l.lists.watchers ≡ l.fn.lists.watchers);
  fewer : HasFewerTimers l.fn.lists l.lists;
}

abbrev pub decreases-loop-req : goal.decreases-loop-req
decreases-loop-req l = length l.lists.timers
