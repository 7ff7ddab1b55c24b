use Rattle.wheel.proofs.Common.{arith, subst, sym, ◌-◌, ◌≤◌}
use Rattle.wheel.proofs.Sorting.{up_to}
use Rattle.wheel.proofs.sorted.place.Goals as goal

pub returns-else-at-index-clause-before : goal.returns-else-at-index-clause-before
returns-else-at-index-clause-before c = λ j t lt u.
    let le : t.at ≤ c.index.result.now.at = subst (λ x. t.at ≤ x.at) (sym c.index.ensures) (up_to c.args.timers.now.items c.requires (c.loop-k.k - 1) c.index.result.now (omega (arith, c.loop-k.invariant.0)) j t (omega arith) u) in omega arith
