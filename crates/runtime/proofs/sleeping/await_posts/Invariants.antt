use Rattle.runtime.proofs.Common.{List, Req, ◌++◌, ◌≡◌}
use Rattle.runtime.proofs.sleeping.await_posts.Given as goal

abbrev pub invariant-loop : goal.invariant-loop
invariant-loop g l = record {
  held : (l.held.ring ≡ l.fn.held.ring) × (l.held.places ≡ l.fn.held.places);
  found : (xs : List Req) × (l.held.posts ≡ l.fn.held.posts ++ xs);
}
