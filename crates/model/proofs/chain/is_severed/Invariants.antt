use Rattle.model.specs.Decides.{severed_in}
use Rattle.model.proofs.Common.{◌≡◌, ◌≤◌}
use Rattle.model.proofs.chain.is_severed.Given as goal

abbrev pub invariant-loop-m : goal.invariant-loop-m
invariant-loop-m l = (l.m ≤ l.k) × (severed_in l.requests l.k ≡ severed_in l.requests l.m)

abbrev pub decreases-loop-m : goal.decreases-loop-m
decreases-loop-m l = l.m
