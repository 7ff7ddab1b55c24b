use Rattle.runtime.proofs.Common.{arc_value, ◌≡◌}
use Rattle.runtime.proofs.join.sole.Given as goal

abbrev pub invariant-loop : goal.invariant-loop
invariant-loop g l = arc_value l.shared ≡ arc_value l.fn.shared
