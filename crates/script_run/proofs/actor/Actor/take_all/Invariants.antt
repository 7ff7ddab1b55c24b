use Rattle.script_run.proofs.Common.{Went}
use Rattle.script_run.proofs.actor.Actor.take_all.Given as goal

abbrev pub invariant-loop : goal.invariant-loop
invariant-loop g l = Went l.fn.self l.self
