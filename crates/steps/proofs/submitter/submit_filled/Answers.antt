use Rattle.steps.proofs.Common.{IsStep, arith, subst, ℕ, ◌∙◌}
use Rattle.steps.proofs.SubmitReap.{submit_allows}
use Rattle.steps.proofs.submitter.submit_filled.Goals as goal

pub compare_exchange-requires : goal.compare_exchange-requires
compare_exchange-requires c = let f = c.requires.fits in let s = c.requires.submitter in let p = c.requires.filled in
    rw c.claim_word.ensures (f.0, omega arith, submit_allows _ _ c.args.seat.now.me c.args.cell c.args.generation s.0 s.1 f.2 _ _ _ p.0 c.requires.small c.empty-empty.ensures c.held-held.ensures c.requires.free c.requires.next p.2 p.3 p.4 p.5 p.1)

pub returns-clause-seat : goal.returns-clause-seat
returns-clause-seat c = let f = c.requires.fits in let p = c.requires.filled in let d = c.compare_exchange.ensures.2.1 c.args.cell 0 c.args.generation 0 c.claim_word.ensures f.2 (omega arith) c.requires.small (omega arith) c.empty-empty.ensures in
    ((c.compare_exchange.ensures.0, c.compare_exchange.ensures.1), (d p.0 p.1).1)

pub returns-clause-submits : goal.returns-clause-submits
returns-clause-submits c = let f = c.requires.fits in let d = c.compare_exchange.ensures.2.1 c.args.cell 0 c.args.generation 0 c.claim_word.ensures f.2 (omega arith) c.requires.small (omega arith) c.empty-empty.ensures in λ p is. (d p is).0

pub returns-clause-step : goal.returns-clause-step
returns-clause-step c = subst (λ (z : ℕ × ℕ). IsStep z.0 z.1 c.args.seat.now.me.0 c.compare_exchange.new.seat.me.0) (λ i. (c.claim_word.ensures i, (c.compare_exchange.ensures.2.0 ∙ c.empty-empty.ensures) i)) c.compare_exchange.ensures.2.2
