use Rattle.ring_c.proofs.Common.{ClientFacts, Facts, Submits, subst}
use Rattle.ring_c.proofs.client.Client.submit.Goals as goal

pub returns-then-entries-eq64-clause-submits : goal.returns-then-entries-eq64-clause-submits
returns-then-entries-eq64-clause-submits c = subst (λ (x : ClientFacts). Submits c.args.entries.now c.args.bytes.now x.board x.pass c.submit_one.new.submitter c.submit_one.result) c.self.view_is
    (subst (λ (b : Facts). Submits c.args.entries.now c.args.bytes.now b c.self.inside.submitter c.submit_one.new.submitter c.submit_one.result) c.deref.ensures c.submit_one.ensures.submits)

pub returns-clause-submits : goal.returns-clause-submits
returns-clause-submits c = subst (λ (x : ClientFacts). Submits c.args.entries.now c.args.bytes.now x.board x.pass c.submit_batch.new.submitter c.submit_batch.result) c.self.view_is
    (subst (λ (b : Facts). Submits c.args.entries.now c.args.bytes.now b c.self.inside.submitter c.submit_batch.new.submitter c.submit_batch.result) c.deref-2.ensures c.submit_batch.ensures.submits)
