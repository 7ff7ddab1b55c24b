use Rattle.bell.proofs.Common.{Sleeping, ap, arith, ◌∙◌}
use Rattle.bell.proofs.SleeperSteps.{arm_allows}
use Rattle.bell.proofs.sleeper.Sleeper.doze.Goals as goal

pub swap-requires : goal.swap-requires
swap-requires c = let o = c.requires.own in (ap (λ (s : Sleeping). s.table) c.self.view_is ∙ o.0, omega arith, arm_allows _ _ _ c.self.inside.seat.me c.self.invariant.role)
