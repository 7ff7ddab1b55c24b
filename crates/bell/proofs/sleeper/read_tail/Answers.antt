use Rattle.bell.proofs.Common.{arith}
use Rattle.bell.proofs.SleeperSteps.{read_allows}
use Rattle.bell.proofs.sleeper.read_tail.Goals as goal

pub load-requires : goal.load-requires
load-requires c = let o = c.requires.own in (o.0, omega arith, read_allows _ _ _ c.args.ring c.args.seat.now.me c.requires.sleeper c.requires.ring)
