use Rattle.wheel.proofs.Common.{InOrder, IsOnce, Some, ap, arith, bool_cases, deadline_in, dropped, false, same, subst, sym, true, ⊎_elim, ◌<◌, ◌∙◌, ◌≡◌}
use Rattle.wheel.proofs.Sorting.{drops, its_deadline, once_without, order_without}
use Rattle.wheel.proofs.sorted.SortedTimers.drop_at.Goals as goal

pub take_out-was_there-requires-clause-before : goal.take_out-was_there-requires-clause-before
take_out-was_there-requires-clause-before c = λ k t lt u.
    let ts = c.self.inside.timers.items in
    ⊎_elim (λ (w : same t.req c.args.timer.req ≡ true). absurd (
    let e : Some t.at ≡ Some c.args.timer.at = sym (its_deadline ts c.self.invariant.1 k t u c.args.timer.req w) ∙ ap (λ z. deadline_in z c.args.timer.req) c.self.view_is ∙ c.requires in
    let same_at : t.at ≡ c.args.timer.at = cc in
    let below : t.at < c.args.timer.at = c.first_from-from.ensures.before k t lt u in omega arith))
    (λ (w : same t.req c.args.timer.req ≡ false). w) (bool_cases (same t.req c.args.timer.req))

pub invariant_of-self : goal.invariant_of-self
invariant_of-self c =
    let ts = c.self.inside.timers.items in
    subst (λ z. InOrder z × IsOnce z) (sym c.take_out-was_there.ensures.items) (order_without c.args.timer.req ts c.self.invariant.0, once_without c.args.timer.req ts c.self.invariant.1)

pub returns : goal.returns
returns c = ap deadline_in c.take_out-was_there.ensures.items ∙ drops c.args.timer.req c.self.inside.timers.items ∙ ap (λ z. dropped (deadline_in z) c.args.timer.req) c.self.view_is
