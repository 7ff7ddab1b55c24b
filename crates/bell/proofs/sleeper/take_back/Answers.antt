use Rattle.bell.proofs.Common.{arith}
use Rattle.bell.proofs.SleeperSteps.{take_back_allows}
use Rattle.bell.proofs.sleeper.take_back.Goals as goal

pub swap-requires : goal.swap-requires
swap-requires c = let o = c.requires.own in (o.0, omega arith, take_back_allows _ _ _ c.args.seat.now.me c.requires.sleeper)
