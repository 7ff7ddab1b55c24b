use Rattle.work.specs.declared.run.Ran.{Ran}
use Rattle.work.specs.WorkerRuns.{IsRun}
use Rattle.ring_c.proofs.Common.{ap, length, subst}
use Rattle.ring_c.proofs.hand.work.Goals as goal

pub returns-in-Err-clause-works : goal.returns-in-Err-clause-works
returns-in-Err-clause-works c = let e = c.in-Err.ensures in record { looked = e.refused.1; none = e.refused.2; took = e.took.1 }

pub returns-in-Replied-clause-works : goal.returns-in-Replied-clause-works
returns-in-Replied-clause-works c = let b = c.in-Ok.ensures.begun in
    (ap length c.took.ensures, record { busy = c.in-Ok.busy; req_is = b.0; own = b.1; begun = b.2; run = subst (λ (x : Ran). IsRun c.in-Ok.busy c.run-worker.result.0 x) c.in-Replied.is c.run-worker.ensures.ran })
