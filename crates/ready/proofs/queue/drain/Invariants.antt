use Rattle.ready.proofs.Common.{IsPassOf, length, ruled_capacity, account, vec_capacity, view, ◌++◌, ◌≡◌, ◌≤◌}
use Rattle.ready.proofs.queue.drain.Given as goal

abbrev pub invariant-loop-n : goal.invariant-loop-n
invariant-loop-n g l = record {
  keeper : IsPassOf l.line l.keeper;
  view_is : view l.keeper ≡ account (view l.fn.keeper).share (view l.fn.keeper).put ((view l.fn.keeper).taken ++ l.left.items);
  count : length l.left.items ≡ l._n;
  room : ruled_capacity l.line ≤ vec_capacity l.left;
}
