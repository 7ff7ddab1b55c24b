use Rattle.ready.proofs.Common.{length, most, numbers_of, vec_capacity, ◌*◌, ◌++◌, ◌+◌, ◌≡◌, ◌≤◌}
use Rattle.ready.proofs.queue.unfold.Given as goal

abbrev pub invariant-loop-span : goal.invariant-loop-span
invariant-loop-span l = record {
  added : l.left.items ++ numbers_of l.span-iterator.rest.items ≡ l.fn.left.items ++ numbers_of l.fn.spans.items;
  few : length l.left.items + most * length l.span-iterator.rest.items ≤ length l.fn.left.items + most * length l.fn.spans.items;
  room : vec_capacity l.left ≡ vec_capacity l.fn.left;
}
