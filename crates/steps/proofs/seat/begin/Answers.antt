use Rattle.steps.proofs.Common.{IsStep, arith, eq-eqb, eqb-true, subst, sym, ℕ, ◌∙◌}
use Rattle.steps.proofs.LoadReleaseBegin.{begin_allows}
use Rattle.steps.proofs.seat.begin.Goals as goal

pub compare_exchange-requires : goal.compare_exchange-requires
compare_exchange-requires c = let f = c.requires.fits in rw c.claim_word.ensures (f.0, omega arith, begin_allows _ _ _ _ c.args.cell c.args.generation _ _ c.requires.idle.0 c.requires.idle.1 f.2 c.requires.small c.ready-ready.ensures c.running-running.ensures)

pub returns-clause-begins : goal.returns-clause-begins
returns-clause-begins c = let f = c.requires.fits in let p = c.compare_exchange.ensures.2.0 in λ e. p (eqb-true _ _ e) c.args.cell c.args.generation 0 c.claim_word.ensures f.2 c.requires.small (omega arith) c.ready-ready.ensures

pub returns-clause-missed : goal.returns-clause-missed
returns-clause-missed c = let f = c.requires.fits in λ ne. let m = c.compare_exchange.ensures.2.1 (λ hit. ne (eq-eqb _ _ hit)) in (c.compare_exchange.result, subst (λ (i : ℕ). IsStep i c.compare_exchange.result c.args.seat.now.me.0 c.compare_exchange.new.seat.me.0) c.claim_word.ensures m.3, m.2 c.args.cell c.claim_word.ensures f.2, λ e. ne (eq-eqb _ _ (e ∙ sym c.ready-ready.ensures)))

pub returns-clause-step : goal.returns-clause-step
returns-clause-step c = λ e. subst (λ (z : ℕ × ℕ). IsStep z.0 z.1 c.args.seat.now.me.0 c.compare_exchange.new.seat.me.0) (λ i. (c.claim_word.ensures i, (eqb-true _ _ e ∙ c.ready-ready.ensures) i)) c.compare_exchange.ensures.2.2
