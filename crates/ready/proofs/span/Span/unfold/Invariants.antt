use Rattle.ready.proofs.Common.{run_from, vec_capacity, ◌++◌, ◌≡◌}
use Rattle.ready.proofs.span.Span.unfold.Given as goal

abbrev pub invariant-loop-n : goal.invariant-loop-n
invariant-loop-n l = record {
  added : l.left.items ≡ l.fn.left.items ++ run_from l.ring l.k l.n;
  room : vec_capacity l.left ≡ vec_capacity l.fn.left;
}
