use Rattle.steps.proofs.Common.{arith, ◌<◌}
use Rattle.steps.proofs.PollerExchanges.{polls, told_by}
use Rattle.steps.proofs.TimerSteps.{arm_allows}
use Rattle.steps.proofs.timers.arm.Goals as goal

pub compare_exchange-requires : goal.compare_exchange-requires
compare_exchange-requires c = let f = c.requires.fits in let k = polls _ _ c.requires.poller.0.1 in
    rw c.claim_word.ensures (
      f.0,
      omega arith,
      arm_allows _ _ _ k.0 c.requires.poller.1 c.args.cell c.args.generation f.2 c.requires.small k.2 c.requires.submitted _ _ _ c.args.deadline k.1 (let r = c.ranges.deadline.fits in omega arith) c.held-held.ensures c.armed-armed.ensures c.requires.may c.requires.timer.0 c.requires.timer.1 c.requires.timer.2 c.requires.timer.3 c.requires.timer.4,
    )

pub returns : goal.returns
returns c = let f = c.requires.fits in let e = c.compare_exchange.ensures in let g = c.args.generation in let small : c.args.deadline < 4294967296 = (let r = c.ranges.deadline.fits in omega arith) in
    let t = told_by c.args.seat.now.me c.compare_exchange.new.seat.me _ c.args.cell _ c.compare_exchange.result _ _ c.claim_word.ensures f.2 c.held-held.ensures (λ hit. e.2.0 hit c.args.cell g 0 c.claim_word.ensures f.2 c.requires.small (omega arith) c.held-held.ensures g c.args.deadline c.requires.small small c.armed-armed.ensures) e.2.1 e.2.2 in
    record { seat = ((e.0, e.1), t.hand); arms = t.adds; step = t.step; looks = t.looks; missed = t.missed }
