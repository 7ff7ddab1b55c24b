use Rattle.wheel.proofs.Common.{InOrder, IsOnce, ap, armed, deadline_in, subst, sym, with_timer, ◌∙◌}
use Rattle.wheel.proofs.Sorting.{adds, once_with, order_with}
use Rattle.wheel.proofs.sorted.SortedTimers.add.Goals as goal

pub invariant_of-self-2 : goal.invariant_of-self-2
invariant_of-self-2 c =
    let ts = c.self.inside.timers.items in let none = ap (λ z. deadline_in z c.args.timer.req) c.self.view_is ∙ c.requires in
    subst (λ z. InOrder z × IsOnce z) (sym (c.put.ensures ∙ ap (with_timer c.args.timer) c.reserve.ensures.items)) (order_with c.args.timer ts c.self.invariant.0, once_with c.args.timer ts c.self.invariant.1 none)

pub returns-clause-ok : goal.returns-clause-ok
returns-clause-ok c =
    let ts = c.self.inside.timers.items in let none = ap (λ z. deadline_in z c.args.timer.req) c.self.view_is ∙ c.requires in
    ap deadline_in (c.put.ensures ∙ ap (with_timer c.args.timer) c.reserve.ensures.items) ∙ adds c.args.timer ts none ∙ ap (λ z. armed (deadline_in z) c.args.timer.req c.args.timer.at) c.self.view_is
