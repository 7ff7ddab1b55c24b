use Rattle.steps.proofs.Common.{arith}
use Rattle.steps.proofs.LoadReleaseBegin.{look_allows}
use Rattle.steps.proofs.seat.look.Goals as goal

pub load-requires : goal.load-requires
load-requires c = let f = c.requires.fits in rw c.claim_word.ensures (f.0, omega arith, look_allows _ _ _ _ c.args.cell c.requires.live)
