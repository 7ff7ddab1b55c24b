use Rattle.steps.specs.Fairness.{IsFree}
use Rattle.board.specs.Queues.{nth}
use Rattle.runtime.proofs.Common.{ClientFacts, Facts, Pass, RefusesBatch, Shared, ap, next_of, seen_of, subst, sym, ℕ, ◌+◌, ◌∙◌}
use Rattle.runtime.proofs.client.Client.submit_batch.Goals as goal

pub returns-in-Ok-clause-free : goal.returns-in-Ok-clause-free
returns-in-Ok-clause-free c =
    let board = ap (λ (s : Shared). s.board) c.deref.ensures ∙ ap (λ (d : ClientFacts). d.board) c.self.view_is in
    λ (i : ℕ) lt. subst (λ (p : Pass). IsFree c.args.self.now.board.layout.cells (seen_of p) (nth c.in-Ok.req.ring (c.in-Ok.req.k + i))) (sym c.publish_tail.ensures.same.2)
    (subst (λ (b : Facts). IsFree b.layout.cells (seen_of c.submit_batch.new.submitter) (nth c.in-Ok.req.ring (c.in-Ok.req.k + i))) board (c.in-Ok.ensures.free i lt))

pub returns-in-Err-clause-reason : goal.returns-in-Err-clause-reason
returns-in-Err-clause-reason c =
    let board = ap (λ (s : Shared). s.board) c.deref.ensures ∙ ap (λ (d : ClientFacts). d.board) c.self.view_is in
    let submitter = ap (λ (d : ClientFacts). d.submitter) c.self.view_is in
    let ring = ap (λ (d : ClientFacts). d.ring) c.self.view_is in
    let role = c.self.invariant.3 in
    subst (λ (b : Facts). RefusesBatch b c.args.batch.items c.args.self.now.ring (next_of c.args.self.now.submitter c.args.self.now.ring).k c.args.self.now.submitter c.submit_batch.new.submitter c.in-Err.refused.0) board
    (subst (λ (d : ClientFacts). RefusesBatch c.deref.result.now.board c.args.batch.items d.ring (next_of d.submitter d.ring).k d.submitter c.submit_batch.new.submitter c.in-Err.refused.0) c.self.view_is
    (c.in-Err.ensures.reason c.self.inside.held.ring role))
