use Rattle.ready.specs.Ready.{IsQueuePass}
use Rattle.runtime.proofs.Common.{All, AreWorking, IsOf, arc_value, length, shares_of, sum_by, vec_capacity, ◌+◌, ◌≡◌, ◌≤◌}
use Rattle.runtime.proofs.crew.start_workers.Given as goal

abbrev pub invariant-loop-worker : goal.invariant-loop-worker
invariant-loop-worker g l = record {
  workers : All (λ p. IsOf (arc_value l.stage.shared).board p) l.workers.items;
  passes : All (λ p. IsQueuePass (arc_value l.stage.shared).queue p) l.passes.items;
  pairs : length l.passes.items ≡ length l.workers.items;
  listening : length l.listeners.items ≡ length l.workers.items;
  calling : length l.callers.items ≡ length l.workers.items;
  threads : AreWorking (arc_value l.stage.shared) l.threads.items;
  shares : shares_of l.threads.items + sum_by (λ p. p.share) l.passes.items ≡ sum_by (λ p. p.share) l.fn.parts.passes.items;
  count : length l.threads.items + length l.workers.items ≡ length l.fn.parts.workers.items;
  room : length l.fn.parts.workers.items ≤ vec_capacity l.threads;
}

abbrev pub decreases-loop-worker : goal.decreases-loop-worker
decreases-loop-worker g l = length l.workers.items
