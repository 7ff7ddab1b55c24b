use Rattle.work.proofs.Common.{IsSameSeat, ◌≡◌}
use Rattle.work.proofs.CancelWalk.{Searching}
use Rattle.work.proofs.cancel.search.Given as goal

-- the requests before k are passed
abbrev pub invariant-loop-k : goal.invariant-loop-k
invariant-loop-k l = IsSameSeat l.fn.seat l.seat × (l.seat.me.1 ≡ l.fn.seat.me.1) × Searching l.fn.seat.me.0 l.seat.me.0 l.task.req l.first l.k
