use Rattle.cases.specs.Cast.{IsCast}
use Rattle.cases.proofs.boards.park_all.Given as goal

abbrev pub invariant-loop-number : goal.invariant-loop-number
invariant-loop-number l = IsCast l.board l.cast
