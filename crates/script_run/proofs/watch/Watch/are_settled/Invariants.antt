use Rattle.script_run.proofs.Common.{Went}
use Rattle.script_run.proofs.watch.Watch.are_settled.Given as goal

abbrev pub invariant-loop-request : goal.invariant-loop-request
invariant-loop-request l = Went l.fn.actor l.actor
