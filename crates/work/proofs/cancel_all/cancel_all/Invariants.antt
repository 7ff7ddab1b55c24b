use Rattle.std.specs.Prelude.{◌≡◌, ◌≤◌}
use Rattle.work.proofs.Common.{IsSameSeat, vec_capacity}
use Rattle.work.proofs.CancelAll.{Canceling}
use Rattle.work.proofs.cancel_all.cancel_all.Given as goal

-- each match before k has replied, or was found running
abbrev pub invariant-loop-k : goal.invariant-loop-k
invariant-loop-k l = IsSameSeat l.fn.seat l.seat × (l.seat.me.1 ≡ l.fn.seat.me.1) × (vec_capacity l.fn.took ≤ vec_capacity l.took) × Canceling l.fn.seat.me.0 l.seat.me.0 l.task.req l.first l.k l.took.items
