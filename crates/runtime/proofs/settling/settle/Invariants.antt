use Rattle.runtime.proofs.Common.{All, IsPollSide, IsWorkSide, length, shares_in, vec_capacity, ◌≡◌}
use Rattle.runtime.proofs.settling.settle.Given as goal

abbrev pub invariant-loop : goal.invariant-loop
invariant-loop g l = record {
  side : IsPollSide g.C.Clock.follows l.shared l.side × (l.side.own ≡ l.fn.side.own);
  workers : All (λ w. IsWorkSide l.shared w) l.workers.items × (length l.workers.items ≡ length l.fn.workers.items);
  shares : (l.side.desk.ready.share ≡ l.fn.side.desk.ready.share) × (shares_in l.workers.items ≡ shares_in l.fn.workers.items);
  room : vec_capacity l.workers ≡ vec_capacity l.fn.workers;
}
