use Rattle.ring_c.proofs.Common.{ClientFacts, Facts, ReapsAt, subst}
use Rattle.ring_c.proofs.client.Client.reap.Goals as goal

pub returns-clause-reaps : goal.returns-clause-reaps
returns-clause-reaps c = subst (λ (x : ClientFacts). ReapsAt x.board c.args.req x.pass c.reap.new.submitter x.bytes c.reap.new.bytes.items c.reap.result) c.self.view_is
    (subst (λ (b : Facts). ReapsAt b c.args.req c.self.inside.submitter c.reap.new.submitter c.self.inside.bytes.items c.reap.new.bytes.items c.reap.result) c.deref.ensures c.reap.ensures.reaps)
