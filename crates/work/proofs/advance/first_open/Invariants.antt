use Rattle.work.proofs.Common.{IsSameSeat, ◌-◌, ◌≡◌, ◌≤◌}
use Rattle.work.proofs.CancelAdvance.{Advancing}
use Rattle.work.proofs.advance.first_open.Given as goal

-- the requests before k have replied
abbrev pub invariant-loop-k : goal.invariant-loop-k
invariant-loop-k l = IsSameSeat l.fn.seat l.seat × (l.seat.me.1 ≡ l.fn.seat.me.1) × Advancing l.fn.seat.me.0 l.seat.me.0 l.req l.from l.k × (l.k - l.from ≤ l.req.k - l.from)
