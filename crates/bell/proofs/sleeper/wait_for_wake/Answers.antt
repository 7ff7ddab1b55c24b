use Rattle.bell.proofs.Common.{View, ap, arith, ◌∙◌}
use Rattle.bell.proofs.SleeperSteps.{ask_allows}
use Rattle.bell.proofs.sleeper.wait_for_wake.Goals as goal

pub load-requires : goal.load-requires
load-requires g c = let o = c.requires.own in let i = c.loop.invariant in (i.2 ∙ o.0, omega arith, ask_allows _ _ _ c.loop.seat.me (ap (λ (v : View). v.role) i.3 ∙ c.requires.sleeper))
