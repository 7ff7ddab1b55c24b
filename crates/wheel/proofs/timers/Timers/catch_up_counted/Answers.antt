use Rattle.wheel.proofs.Common.{AreFrom, subst, sym}
use Rattle.wheel.proofs.Fronts.{least_bounds}
use Rattle.wheel.proofs.timers.Timers.catch_up_counted.Goals as goal

pub invariant_of-self : goal.invariant_of-self
invariant_of-self g c =
    let es = c.self.inside.deadlines.entries in
    (c.self.invariant.0, subst (λ z. AreFrom z es) (sym c.bound_by-self-inside.ensures) (least_bounds c.self.inside.slots es c.self.invariant.0 c.least.result c.least.ensures.least))
