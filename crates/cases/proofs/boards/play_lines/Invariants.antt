use Rattle.cases.specs.Cast.{IsCast}
use Rattle.cases.proofs.boards.play_lines.Given as goal

abbrev pub invariant-loop-line : goal.invariant-loop-line
invariant-loop-line g l = IsCast l.board l.cast
