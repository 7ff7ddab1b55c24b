use Rattle.wheel.proofs.Common.{arith, subst, sym, ◌+◌, ◌-◌, ◌/◌, ◌≤◌}
use Rattle.wheel.proofs.Sorting.{up_to}
use Rattle.wheel.proofs.sorted.first_from.Goals as goal

pub loop-low-preserved-then-index-at : goal.loop-low-preserved-then-index-at
loop-low-preserved-then-index-at c = (
  omega arith,
  omega arith,
  λ j t lt u.
      let le : t.at ≤ c.index.result.now.at = subst (λ x. t.at ≤ x.at) (sym c.index.ensures) (up_to c.args.timers.now.items c.requires (c.loop-low.low + (c.loop-low.high - c.loop-low.low) / 2) c.index.result.now (omega arith) j t (omega arith) u) in omega arith,
)
