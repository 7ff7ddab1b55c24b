use Rattle.ring_c.proofs.Common.{DeskFacts, Facts, IsOf, ap, subst, sym, ◌∙◌}
use Rattle.ring_c.proofs.PassLists.{are_of_more}
use Rattle.ring_c.proofs.desk.Desk.take_worker.Goals as goal

pub invariant_of-self-2 : goal.invariant_of-self-2
invariant_of-self-2 c =
    let i = c.self.invariant in
    let own = subst (λ (b : Facts). IsOf b c.into_worker.result) (c.requires.ours ∙ ap (λ (d : DeskFacts). d.board) (sym c.self.view_is)) c.into_worker.ensures.own in
    (i.0, i.1, are_of_more _ _ _ _ _ i.2 c.reserve.ensures.items own c.push_reserved.ensures.items, i.3, i.4)
