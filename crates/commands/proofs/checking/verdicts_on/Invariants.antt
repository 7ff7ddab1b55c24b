use Rattle.commands.proofs.Gone.{GoesOn}
use Rattle.commands.proofs.checking.verdicts_on.Given as goal

abbrev pub invariant-loop-one : goal.invariant-loop-one
invariant-loop-one l = GoesOn l.script l.given l.one-index l.made.items
