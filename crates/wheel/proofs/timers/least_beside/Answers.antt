use Rattle.wheel.proofs.Common.{IsLeast, ap, arith, cases_lt, earlier_of, subst, sym, ⊎_elim, ◌+◌, ◌<◌, ◌∙◌, ◌≡◌, ◌≤◌}
use Rattle.wheel.proofs.Fronts.{least_more}
use Rattle.wheel.proofs.timers.least_beside.Goals as goal

pub loop-slot-preserved : goal.loop-slot-preserved
loop-slot-preserved g c =
    let n = c.loop-slot.slot in let best = c.loop-slot.best in let slots = c.args.slots.now in
    let is = c.earlier-best.ensures ∙ ap (earlier_of best) c.front_beside-front.ensures.first in (
      subst (λ z. IsLeast slots (n + 1) z) (sym is) (least_more slots n best c.loop-slot.invariant.0 c.front_beside-front.ensures.sorted),
      omega (arith, c.front_beside-front.ensures.looked, c.loop-slot.invariant.1),
      λ past. ⊎_elim (λ (lt : c.args.known.slot < n). (let before = c.loop-slot.invariant.2 lt in omega (arith, before, c.front_beside-front.ensures.looked)))
          (λ (ge : n ≤ c.args.known.slot). (let e : n ≡ c.args.known.slot = omega arith in let here = c.front_beside-front.ensures.known e in omega (arith, here, c.loop-slot.invariant.1))) (cases_lt c.args.known.slot n),
    )
