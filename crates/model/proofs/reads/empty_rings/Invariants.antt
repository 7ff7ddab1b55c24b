use Rattle.std.specs.Prelude.{replicate}
use Rattle.model.proofs.Common.{[], ◌≡◌}
use Rattle.model.proofs.reads.empty_rings.Given as goal

abbrev pub invariant-loop-i : goal.invariant-loop-i
invariant-loop-i l = l.all.items ≡ replicate l.i []
