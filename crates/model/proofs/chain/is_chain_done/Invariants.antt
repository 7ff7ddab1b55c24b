use Rattle.model.specs.Decides.{chain_done}
use Rattle.model.proofs.Common.{◌≡◌, ◌≤◌}
use Rattle.model.proofs.chain.is_chain_done.Given as goal

abbrev pub invariant-loop-m : goal.invariant-loop-m
invariant-loop-m l = (l.m ≤ l.k) × (chain_done l.requests l.k ≡ chain_done l.requests l.m)

abbrev pub decreases-loop-m : goal.decreases-loop-m
decreases-loop-m l = l.m
