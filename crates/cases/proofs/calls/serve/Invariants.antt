use Rattle.cases.specs.Cast.{IsCast}
use Rattle.cases.proofs.calls.serve.Given as goal

abbrev pub invariant-loop-served : goal.invariant-loop-served
invariant-loop-served l = IsCast l.board l.cast
