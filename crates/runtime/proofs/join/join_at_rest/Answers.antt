use Rattle.runtime.specs.Rests.{CameToRest, HasRested}
use Rattle.runtime.proofs.Common.{Facts, IsReport, IsTrue, List, Pass, Poller, ap, length, map, refl, rules, submitter_of, subst, worker_of, ◌++◌, ◌∙◌, ◌∷◌, ◌≡◌}
use Rattle.runtime.proofs.RuntimeParts.{same_submitters}
use Rattle.runtime.proofs.join.join_at_rest.Goals as goal
use Rattle.runtime.proofs.join.join_at_rest.Goals.{then-is_drained, else-is_drained}

pub returns-clause-ended : goal.returns-clause-ended
returns-clause-ended g c =
    let was = c.in_ok-halted.halted in
    let h = c.settle-halted.result.0 in
    let same = c.in_ok-halted.ensures.same in
    let still = c.settle-halted.ensures.same in
    let board = still.0 ∙ same.0 in
    let p = h.stopped.desk.poller in
    let ws = map worker_of h.stopped.workers in
    let report = subst (λ (ps : List Pass). IsReport h.stopped.shared.board (p ∷ (ps ++ ws)) c.end-report.result.0) (ap (λ v. map submitter_of v.items) still.1 ∙ same_submitters c.args.clients.items was.clients.items same.1) c.end-report.ensures.report in
    let at_rest : IsTrue c.if-is_drained.is_at_rest → CameToRest c.args.runtime.board p ws = elim c.if-is_drained.branch [
      | then-is_drained v ↦ λ e. record {
        queue = h.stopped.shared.queue;
        desk = h.stopped.desk;
        sides = h.stopped.workers;
        rested = subst (λ (b : Facts). HasRested b h.stopped.shared.queue h.stopped.desk h.stopped.workers) board (c.settle-halted.ensures.rest (search rules));
        drained = c.end-report.ensures.drained (search rules);
        poller_is = refl;
        workers_are = refl;
      }
      | else-is_drained v ↦ λ e. absurd (search rules)
    ] in (
      p,
      ws,
      subst (λ (b : Facts). IsReport b (p ∷ (map submitter_of c.args.clients.items ++ ws)) c.end-report.result.0) board report,
      c.end-report.ensures.follows.0,
      subst (λ (b : Facts). p.view.role ≡ Poller (length b.layout.cells)) board c.end-report.ensures.follows.1,
      at_rest,
    )
