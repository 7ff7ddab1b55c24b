use Rattle.steps.proofs.Common.{IsStep, [], arith, refl, subst, ℕ, ◌∙◌}
use Rattle.steps.proofs.ReplyPark.{park_allows}
use Rattle.steps.proofs.seat.park.Goals as goal

pub compare_exchange-requires : goal.compare_exchange-requires
compare_exchange-requires c = let f = c.requires.fits in let h = c.requires.submission in
    rw c.claim_word.ensures (f.0, omega arith, park_allows _ _ c.args.seat.now.me c.args.cell c.args.generation h.0 [] c.requires.busy f.2 c.requires.small h.1 h.2 _ _ _ c.requires.unhit refl c.requires.bare c.running-running.ensures c.ready-ready.ensures)

pub returns : goal.returns
returns c = let f = c.requires.fits in let d = c.compare_exchange.ensures.2.1 c.args.cell 0 c.args.generation 0 c.claim_word.ensures f.2 (omega arith) c.requires.small (omega arith) c.running-running.ensures in
    record { seat = ((c.compare_exchange.ensures.0, c.compare_exchange.ensures.1), d.1); parks = d.0; step = subst (λ (z : ℕ × ℕ). IsStep z.0 z.1 c.args.seat.now.me.0 c.compare_exchange.new.seat.me.0) (λ i. (c.claim_word.ensures i, (c.compare_exchange.ensures.2.0 ∙ c.running-running.ensures) i)) c.compare_exchange.ensures.2.2 }
