use Rattle.wheel.proofs.Common.{InOrder, IsOnce, ap, deadline_in, dropped, subst, sym, ◌∙◌}
use Rattle.wheel.proofs.Sorting.{order_without, once_without, drops}
use Rattle.wheel.proofs.sorted.SortedTimersTimerSet.drop_timer.Goals as goal

pub invariant_of-self : goal.invariant_of-self
invariant_of-self c =
    let ts = c.self.inside.timers.items in
    subst (λ z. InOrder z × IsOnce z) (sym c.take_out.ensures.items) (order_without c.args.req ts c.self.invariant.0, once_without c.args.req ts c.self.invariant.1)

pub returns-clause-dropped : goal.returns-clause-dropped
returns-clause-dropped c = ap deadline_in c.take_out.ensures.items ∙ drops c.args.req c.self.inside.timers.items ∙ ap (λ z. dropped (deadline_in z) c.args.req) c.self.view_is
