use Rattle.script_run.proofs.Common.{length, ◌≡◌}
use Rattle.script_run.proofs.run.shape_of.Given as goal

abbrev pub invariant-loop-cells : goal.invariant-loop-cells
invariant-loop-cells l = length l.rings.items ≡ l.cells-index
