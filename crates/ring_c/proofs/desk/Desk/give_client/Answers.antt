use Rattle.ring_c.proofs.Common.{Facts, IsOf, subst, sym}
use Rattle.ring_c.proofs.PassLists.{are_of_rest, of_given}
use Rattle.ring_c.proofs.desk.Desk.give_client.Goals as goal

pub invariant_of-result : goal.invariant_of-result
invariant_of-result c = subst (λ (b : Facts). IsOf b c.in-Some.submitter) (sym c.in-Ok.ensures) (of_given _ _ _ _ c.self.invariant.1 c.in-Some.ensures.items)

pub invariant_of-self : goal.invariant_of-self
invariant_of-self c = let i = c.self.invariant in (i.0, are_of_rest _ _ _ _ i.1 c.pop.ensures.items, i.2, i.3, i.4)
