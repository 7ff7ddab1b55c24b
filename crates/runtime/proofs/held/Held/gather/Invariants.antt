use Rattle.std.specs.VecDeque.{deque_capacity}
use Rattle.compring.specs.Posts.{waiting}
use Rattle.runtime.proofs.Common.{List, Req, length, ◌++◌, ◌-◌, ◌≡◌, ◌≤◌}
use Rattle.runtime.proofs.held.Held.gather.Given as goal

-- what was taken out of the ring is in the list, in the same order
abbrev pub invariant-loop-self : goal.invariant-loop-self
invariant-loop-self l = record {
  same : (l.self-inside.ring ≡ l.fn.self.ring) × (l.self-inside.places ≡ l.fn.self.places);
  room : l.fn.self.places ≤ deque_capacity l.self-inside.posts;
  found : (xs : List Req) × (l.self-inside.posts.items ≡ l.fn.self.posts ++ xs);
  gathered : l.fn.self.posts ++ waiting l.fn.ring ≡ l.self-inside.posts.items ++ waiting l.ring;
}

abbrev pub decreases-loop-self : goal.decreases-loop-self
decreases-loop-self l = l.fn.most - length l.self-inside.posts.items
