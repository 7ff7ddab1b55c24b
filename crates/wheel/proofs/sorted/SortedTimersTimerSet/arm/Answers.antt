use Rattle.wheel.proofs.Common.{InOrder, IsOnce, Timer, ap, armed, deadline_in, subst, sym, with_timer, without, ◌∙◌}
use Rattle.wheel.proofs.Sorting.{arms, gone, once_with, once_without, order_with, order_without}
use Rattle.wheel.proofs.sorted.SortedTimersTimerSet.arm.Goals as goal

pub invariant_of-self-2 : goal.invariant_of-self-2
invariant_of-self-2 c =
    let x : Timer = record { req = c.args.req; at = c.args.at } in let ts = c.self.inside.timers.items in
    let left = without c.args.req ts in let is = c.put.ensures ∙ ap (with_timer x) (c.take_out-was_there.ensures.items ∙ ap (without c.args.req) c.reserve.ensures.items) in
    subst (λ z. InOrder z × IsOnce z) (sym is) (order_with x left (order_without c.args.req ts c.self.invariant.0), once_with x left (once_without c.args.req ts c.self.invariant.1) (gone c.args.req ts))

pub returns-clause-ok : goal.returns-clause-ok
returns-clause-ok c =
    let x : Timer = record { req = c.args.req; at = c.args.at } in let ts = c.self.inside.timers.items in
    ap deadline_in (c.put.ensures ∙ ap (with_timer x) (c.take_out-was_there.ensures.items ∙ ap (without c.args.req) c.reserve.ensures.items))
    ∙ arms x ts ∙ ap (λ z. armed (deadline_in z) c.args.req c.args.at) c.self.view_is

pub put-requires-clause-sorted : goal.put-requires-clause-sorted
put-requires-clause-sorted c = subst InOrder (sym (c.take_out-was_there.ensures.items ∙ ap (without c.args.req) c.reserve.ensures.items)) (order_without c.args.req c.self.inside.timers.items c.self.invariant.0)
