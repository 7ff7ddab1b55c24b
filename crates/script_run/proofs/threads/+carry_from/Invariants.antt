use Rattle.script_run.proofs.Common.{length}
use Rattle.script_run.proofs.threads.+carry_from.Given as goal

abbrev pub decreases-carry_from : goal.decreases-carry_from
decreases-carry_from g l = length l.actors.items
