use Rattle.steps.proofs.Common.{arith, ◌≡◌}
use Rattle.steps.proofs.TimerSteps.{tick_allows}
use Rattle.steps.proofs.PollerExchanges.{polls}
use Rattle.steps.proofs.timers.tick.Goals as goal

pub store-requires : goal.store-requires
store-requires c = let f = c.requires.fits in let k = polls _ _ c.requires.poller.0.1 in let e : c.from.result ≡ c.args.now = c.from.ensures in
    (f.0, f.1, tick_allows _ _ c.args.seat.now.me k.0 c.requires.poller.1 _ c.from.result k.1 (let l = c.requires.later.0 in omega arith) (let l = c.requires.later.1 in omega arith))
