use Rattle.runtime.proofs.Common.{Facts, IsReport, List, Pass, map, submitter_of, subst, worker_of, ◌++◌, ◌∷◌}
use Rattle.runtime.proofs.RuntimeParts.{same_submitters}
use Rattle.runtime.proofs.join.join_all.Goals as goal

pub returns-clause-report : goal.returns-clause-report
returns-clause-report g c =
    let h = c.in_ok-halted.halted in
    let same = c.in_ok-halted.ensures.same in
    let p = h.stopped.desk.poller in
    let ws = map worker_of h.stopped.workers in (
      p,
      ws,
      subst (λ (b : Facts). IsReport b (p ∷ (map submitter_of c.args.clients.items ++ ws)) c.end-report.result.0) same.0 (subst (λ (ps : List Pass). IsReport h.stopped.shared.board (p ∷ (ps ++ ws)) c.end-report.result.0) (same_submitters c.args.clients.items h.clients.items same.1) c.end-report.ensures.report),
    )
