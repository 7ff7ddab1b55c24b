use Rattle.ring_c.proofs.Common.{DeskFacts, Facts, Finds, Goes, [], subst}
use Rattle.ring_c.proofs.desk.Desk.look.Goals as goal

pub returns-clause-looks : goal.returns-clause-looks
returns-clause-looks c = subst (λ (x : DeskFacts). Goes x.board x.pass [] c.look.new.pass) c.self.view_is
    (subst (λ (b : Facts). Goes b c.self.inside.poller [] c.look.new.pass) c.deref.ensures c.look.ensures.looks)

pub returns-clause-finds : goal.returns-clause-finds
returns-clause-finds c = subst (λ (x : DeskFacts). Finds x.board c.args.req c.look.result x.pass c.look.new.pass) c.self.view_is
    (subst (λ (b : Facts). Finds b c.args.req c.look.result c.self.inside.poller c.look.new.pass) c.deref.ensures c.look.ensures.finds)
