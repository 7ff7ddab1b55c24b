use Rattle.board.specs.Reports.{IsReport}
use Rattle.ring_c.proofs.Common.{DeskFacts, Facts, subst, ◌++◌, ◌∷◌}
use Rattle.ring_c.proofs.desk.Desk.finish.Goals as goal

pub returns-in-Ok-try_unwrap-clause-report : goal.returns-in-Ok-try_unwrap-clause-report
returns-in-Ok-try_unwrap-clause-report c = let i = c.self.inside in
    subst (λ (x : DeskFacts). IsReport x.board (x.pass ∷ (x.clients ++ x.workers)) c.finish_in.result) c.self.view_is
    (subst (λ (b : Facts). IsReport b (i.poller ∷ (i.clients.items ++ i.workers.items)) c.finish_in.result) c.in-Ok-try_unwrap.ensures.ok c.finish_in.ensures.report)
