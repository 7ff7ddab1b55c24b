use Rattle.steps.proofs.Common.{Bool, arith, cond, false, negsuc, refl, reply_bits, true, ℕ, ◌<◌}
use Rattle.steps.proofs.PollerExchanges.{polls, told_by}
use Rattle.steps.proofs.TimerSteps.{settle_allows}
use Rattle.steps.proofs.timers.settle.Goals as goal

-- the bits of the reply
in_bits : (b : Bool) → (n : ℕ) × reply_bits (cond b (negsuc 61) (negsuc 124)) n
in_bits true = (4294967234, (omega arith, refl))
in_bits false = (4294967171, (omega arith, refl))

pub compare_exchange-requires : goal.compare_exchange-requires
compare_exchange-requires c = let f = c.requires.fits in let k = polls _ _ c.requires.poller.0.1 in let bits = in_bits c.args.in_time in
    rw c.claim_word.ensures (
      f.0,
      omega arith,
      settle_allows _ _ _ k.0 c.requires.poller.1 c.args.cell c.args.generation f.2 c.requires.small k.2 c.requires.submitted _ _ _ c.args.deadline bits.0 c.args.in_time k.1 (let r = c.ranges.deadline.fits in omega arith) bits.1 c.armed-armed.ensures (c.settled-settled.ensures bits.0 bits.1) c.requires.link c.requires.told c.requires.may,
    )

pub returns : goal.returns
returns c = let f = c.requires.fits in let e = c.compare_exchange.ensures in let g = c.args.generation in let small : c.args.deadline < 4294967296 = (let r = c.ranges.deadline.fits in omega arith) in
    let t = told_by c.args.seat.now.me c.compare_exchange.new.seat.me _ c.args.cell _ c.compare_exchange.result _ _ c.claim_word.ensures f.2 c.armed-armed.ensures (λ hit. e.2.0 hit c.args.cell g c.args.deadline c.claim_word.ensures f.2 c.requires.small small c.armed-armed.ensures) e.2.1 e.2.2 in
    record { seat = ((e.0, e.1), t.hand); settles = t.adds; step = t.step; looks = t.looks; missed = t.missed }
