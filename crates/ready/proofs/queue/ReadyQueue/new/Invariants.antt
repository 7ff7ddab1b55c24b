use Rattle.ready.proofs.Common.{IsPassOf, [], all_shares, replicate, account, unused, vec_capacity, view, ◌-◌, ◌≡◌, ◌≤◌}
use Rattle.ready.proofs.queue.ReadyQueue.new.Given as goal

abbrev pub invariant-loop-n : goal.invariant-loop-n
invariant-loop-n l = record {
  last : IsPassOf l.line l.last;
  view_is : view l.last ≡ account (all_shares - l._n) [] [];
  given : l.given.items ≡ replicate l._n (unused l.line.table.shared.table_id 1);
  room : l.passes ≤ vec_capacity l.given;
}
