use Rattle.runtime.proofs.Common.{length, map, ready_of, reverse, vec_capacity, worker_of, ◌++◌, ◌+◌, ◌<◌, ◌≡◌, ◌≤◌}
use Rattle.runtime.proofs.started.passes_of.Given as goal

abbrev pub invariant-loop-side : goal.invariant-loop-side
invariant-loop-side l = record {
  workers : map worker_of l.sides.items ++ reverse l.workers.items ≡ map worker_of l.fn.sides.items;
  passes : map ready_of l.sides.items ++ reverse l.passes.items ≡ map ready_of l.fn.sides.items;
  count : length l.workers.items + length l.sides.items ≡ length l.fn.sides.items;
  pairs : length l.passes.items + length l.sides.items ≡ length l.fn.sides.items;
  room : length l.fn.sides.items ≤ vec_capacity l.workers;
  places : length l.fn.sides.items < vec_capacity l.passes;
}

abbrev pub decreases-loop-side : goal.decreases-loop-side
decreases-loop-side l = length l.sides.items
