use Rattle.runtime.proofs.Common.{◌≡◌}
use Rattle.runtime.proofs.posting.post_all.Given as goal

abbrev pub invariant-loop : goal.invariant-loop
invariant-loop g l = l.outbox.places ≡ l.fn.outbox.places
