use Rattle.steps.proofs.Common.{Done, ap, arith, by_sever, cause_bits, negsuc, refl, reply_bits, word_of, ◌∙◌}
use Rattle.steps.proofs.PollerExchanges.{polls, told_by}
use Rattle.steps.proofs.SeverStep.{sever_allows}
use Rattle.steps.proofs.seat.sever.Goals as goal

pub compare_exchange-requires : goal.compare_exchange-requires
compare_exchange-requires c = let f = c.requires.fits in let k = polls _ _ c.requires.poller.0.1 in let bits : reply_bits (negsuc 124) 4294967171 = (omega arith, refl) in
    rw c.claim_word.ensures (
      f.0,
      omega arith,
      sever_allows _ _ _ c.args.cell c.args.generation 4294967171 c.requires.fails.0 f.2 c.requires.small bits k.0 c.requires.poller.1 _ _ _ k.1
          c.held-held.ensures (c.severed-severed.ensures 4294967171 bits ∙ ap (λ b. word_of Done (cause_bits by_sever b) c.args.generation 4294967171) c.requires.fails.2) c.requires.submitted c.requires.may c.requires.fails.1,
    )

pub returns : goal.returns
returns c = let f = c.requires.fits in let e = c.compare_exchange.ensures in let g = c.args.generation in
    let t = told_by c.args.seat.now.me c.compare_exchange.new.seat.me _ c.args.cell _ c.compare_exchange.result _ _ c.claim_word.ensures f.2 c.held-held.ensures (λ hit. e.2.0 hit c.args.cell g 0 c.claim_word.ensures f.2 c.requires.small (omega arith) c.held-held.ensures) e.2.1 e.2.2 in
    record { seat = ((e.0, e.1), t.hand); severs = t.adds; step = t.step; looks = t.looks; missed = t.missed }
