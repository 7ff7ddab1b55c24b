use Rattle.ring_c.proofs.Common.{counts, length, take, vec_capacity, ◌≡◌, ◌≤◌}
use Rattle.ring_c.proofs.passes.shape_of.Given as goal

abbrev pub invariant-loop-cells : goal.invariant-loop-cells
invariant-loop-cells l = record {
  put : counts l.shapes.items ≡ take l.cells-index l.rings;
  many : length l.shapes.items ≡ l.cells-index;
  room : length l.rings ≤ vec_capacity l.shapes;
}
