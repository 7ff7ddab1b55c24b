use Rattle.script_run.proofs.Common.{length}
use Rattle.script_run.proofs.clock.+are_same.Given as goal

abbrev pub decreases-are_same : goal.decreases-are_same
decreases-are_same l = length l.lines.now
