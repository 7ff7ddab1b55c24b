use Rattle.runtime.proofs.Common.{length}
use Rattle.runtime.proofs.settling.+serve_all.Given as goal

abbrev pub decreases-serve_all : goal.decreases-serve_all
decreases-serve_all g l = length l.workers.items
