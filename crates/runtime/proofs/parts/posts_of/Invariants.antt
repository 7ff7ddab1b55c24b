use Rattle.runtime.proofs.Common.{AreNumbered, length, vec_capacity, ◌≡◌, ◌≤◌}
use Rattle.runtime.proofs.parts.posts_of.Given as goal

abbrev pub invariant-loop-ring : goal.invariant-loop-ring
invariant-loop-ring l = record {
  owner : l.owner ≡ l.ring-index;
  count : length l.posts.items ≡ l.ring-index;
  numbered : AreNumbered l.posts.items;
  room : length l.rings ≤ vec_capacity l.posts;
  pairs : length l.listeners.items ≡ l.ring-index;
  space : length l.rings ≤ vec_capacity l.listeners;
}
