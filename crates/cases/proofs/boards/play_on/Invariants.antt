use Rattle.cases.specs.Cast.{IsTroop}
use Rattle.cases.proofs.boards.play_on.Given as goal

abbrev pub invariant-loop-part : goal.invariant-loop-part
invariant-loop-part g l = IsTroop l.board l.troop
