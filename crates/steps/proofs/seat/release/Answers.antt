use Rattle.steps.proofs.Common.{arith}
use Rattle.steps.proofs.PollerExchanges.{polls, told_by}
use Rattle.steps.proofs.LoadReleaseBegin.{release_allows}
use Rattle.steps.proofs.seat.release.Goals as goal

pub compare_exchange-requires : goal.compare_exchange-requires
compare_exchange-requires c = let f = c.requires.fits in let k = polls _ _ c.requires.poller.0.1 in
    rw c.claim_word.ensures (f.0, omega arith, release_allows _ _ _ _ c.args.cell c.args.generation _ _ k.0 c.requires.poller.1 k.1 k.2 f.2 c.requires.small c.held-held.ensures c.ready-ready.ensures c.requires.submitted c.requires.may)

pub returns : goal.returns
returns c = let f = c.requires.fits in let e = c.compare_exchange.ensures in let g = c.args.generation in
    let t = told_by c.args.seat.now.me c.compare_exchange.new.seat.me _ c.args.cell _ c.compare_exchange.result _ _ c.claim_word.ensures f.2 c.held-held.ensures (λ hit. e.2.0 hit c.args.cell g 0 c.claim_word.ensures f.2 c.requires.small (omega arith) c.held-held.ensures) e.2.1 e.2.2 in
    record { seat = ((e.0, e.1), t.hand); frees = t.adds; step = t.step; looks = t.looks; missed = t.missed }
