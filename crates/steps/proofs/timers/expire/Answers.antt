use Rattle.steps.proofs.Common.{Done, ap, arith, by_expire, cause_bits, negsuc, refl, reply_bits, word_of, ◌<◌, ◌∙◌}
use Rattle.steps.proofs.PollerExchanges.{polls, told_by}
use Rattle.steps.proofs.TimerSteps.{expire_allows}
use Rattle.steps.proofs.timers.expire.Goals as goal

pub compare_exchange-requires : goal.compare_exchange-requires
compare_exchange-requires c = let f = c.requires.fits in let k = polls _ _ c.requires.poller.0.1 in let bits : reply_bits (negsuc 61) 4294967234 = (omega arith, refl) in
    rw c.claim_word.ensures (
      f.0,
      omega arith,
      expire_allows _ _ _ k.0 c.requires.poller.1 c.args.cell c.args.generation f.2 c.requires.small k.2 c.requires.submitted _ _ _ c.args.deadline 4294967234 c.requires.timeout.0 k.1 (let r = c.ranges.deadline.fits in omega arith) bits c.armed-armed.ensures (c.expired-expired.ensures 4294967234 bits ∙ ap (λ b. word_of Done (cause_bits by_expire b) c.args.generation 4294967234) c.requires.timeout.3) c.requires.due c.requires.timeout.1 c.requires.timeout.2,
    )

pub returns : goal.returns
returns c = let f = c.requires.fits in let e = c.compare_exchange.ensures in let g = c.args.generation in let small : c.args.deadline < 4294967296 = (let r = c.ranges.deadline.fits in omega arith) in
    let t = told_by c.args.seat.now.me c.compare_exchange.new.seat.me _ c.args.cell _ c.compare_exchange.result _ _ c.claim_word.ensures f.2 c.armed-armed.ensures (λ hit. e.2.0 hit c.args.cell g c.args.deadline c.claim_word.ensures f.2 c.requires.small small c.armed-armed.ensures) e.2.1 e.2.2 in
    record { seat = ((e.0, e.1), t.hand); expires = t.adds; step = t.step; looks = t.looks; missed = t.missed }
