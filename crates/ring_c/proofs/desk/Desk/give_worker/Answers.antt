use Rattle.ring_c.proofs.Common.{Facts, IsOf, subst, sym}
use Rattle.ring_c.proofs.PassLists.{are_of_rest, of_given}
use Rattle.ring_c.proofs.desk.Desk.give_worker.Goals as goal

pub invariant_of-result : goal.invariant_of-result
invariant_of-result c = subst (λ (b : Facts). IsOf b c.in-Some.worker) (sym c.in-Ok.ensures) (of_given _ _ _ _ c.self.invariant.2 c.in-Some.ensures.items)

pub invariant_of-self : goal.invariant_of-self
invariant_of-self c = let i = c.self.invariant in (i.0, i.1, are_of_rest _ _ _ _ i.2 c.pop.ensures.items, i.3, i.4)
