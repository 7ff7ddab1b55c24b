use Rattle.runtime.proofs.Common.{All, AreWorking, IsWorkSide, length, shares_in, shares_of, vec_capacity, ◌+◌, ◌≡◌, ◌≤◌}
use Rattle.runtime.proofs.promised.join_workers.Given as goal

abbrev pub invariant-loop-thread : goal.invariant-loop-thread
invariant-loop-thread g l = record {
  threads : AreWorking l.shared l.workers.items;
  ended : All (λ w. IsWorkSide l.shared w) l.ended.items;
  count : length l.workers.items + length l.ended.items ≡ length l.fn.workers.items + length l.fn.ended.items;
  shares : shares_of l.workers.items + shares_in l.ended.items ≡ shares_of l.fn.workers.items + shares_in l.fn.ended.items;
  room : length l.fn.workers.items + length l.fn.ended.items ≤ vec_capacity l.ended;
}

abbrev pub decreases-loop-thread : goal.decreases-loop-thread
decreases-loop-thread g l = length l.workers.items
