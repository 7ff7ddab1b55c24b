use Rattle.ring_c.proofs.Common.{ClientFacts, DeskFacts, Facts, IsOf, ap, subst, sym, ◌∙◌}
use Rattle.ring_c.proofs.PassLists.{are_of_more}
use Rattle.ring_c.proofs.desk.Desk.take_client.Goals as goal

pub invariant_of-self-2 : goal.invariant_of-self-2
invariant_of-self-2 c =
    let i = c.self.invariant in
    let own = subst (λ (b : Facts). IsOf b c.client.inside.submitter) (c.requires.ours ∙ ap (λ (d : DeskFacts). d.board) (sym c.self.view_is)) (subst (λ (x : ClientFacts). IsOf x.board c.client.inside.submitter) c.client.view_is c.client.invariant) in
    (i.0, are_of_more _ _ _ _ _ i.1 c.reserve.ensures.items own c.push_reserved.ensures.items, i.2, i.3, i.4)
