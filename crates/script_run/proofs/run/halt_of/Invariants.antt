-- None of the actors so far was stopped; or the first that was is stuck, if one that is stuck is told.
use Rattle.script_run.proofs.Common.{Actor, IsLowest, None, Some, Stuck, slice_index_or, ℕ, ◌<◌, ◌≡◌}
use Rattle.script_run.proofs.run.halt_of.Given as goal

abbrev pub invariant-loop-actor : goal.invariant-loop-actor
invariant-loop-actor l = record {
  none : l.halt ≡ None → (k : ℕ) (d : Actor) → k < l.actor-index → (slice_index_or l.actors k d).halt ≡ None;
  stuck : (p : ℕ) → l.halt ≡ Some (Stuck p) → IsLowest l.actors l.actor-index p;
}
