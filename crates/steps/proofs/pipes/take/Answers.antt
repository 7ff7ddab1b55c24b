use Rattle.steps.proofs.Common.{Extends, Hold, IsStep, Role, eq-eqb, eqb-true, subst, ℕ}
use Rattle.steps.proofs.PipeSteps.{hold_allows}
use Rattle.steps.proofs.pipes.take.Goals as goal

pub compare_exchange-requires : goal.compare_exchange-requires
compare_exchange-requires c = let f = c.requires.fits in let b = c.requires.busy in
    rw c.pipe_word.ensures (f.0, f.3, hold_allows _ _ c.args.seat.now.me b.0 c.args.pipe b.1 f.1 _ f.2)

pub returns-clause-holds : goal.returns-clause-holds
returns-clause-holds c = let v = c.args.seat.now.me.0 in let w = c.compare_exchange.new.seat.me.0 in
    λ e q is. let d = c.compare_exchange.ensures.2.0 (eqb-true _ _ e) c.args.pipe q c.pipe_word.ensures c.requires.fits.2 is in (subst (λ (z : Role). Extends v (Hold q c.args.pipe) z w) is d.0, d.1)

pub returns-clause-step : goal.returns-clause-step
returns-clause-step c = λ e. subst (λ (z : ℕ × ℕ). IsStep z.0 z.1 c.args.seat.now.me.0 c.compare_exchange.new.seat.me.0) (λ i. (c.pipe_word.ensures i, (eqb-true _ _ e) i)) c.compare_exchange.ensures.2.2

pub returns-clause-looks : goal.returns-clause-looks
returns-clause-looks c = λ ne. let m = c.compare_exchange.ensures.2.1 (λ hit. ne (eq-eqb _ _ hit)) in (m.0, m.1)

pub returns-clause-missed : goal.returns-clause-missed
returns-clause-missed c = λ ne. let v = c.args.seat.now.me.0 in let w = c.compare_exchange.new.seat.me.0 in let m = c.compare_exchange.ensures.2.1 (λ hit. ne (eq-eqb _ _ hit)) in
    let o = m.2 c.args.pipe c.pipe_word.ensures in (c.compare_exchange.result, subst (λ (i : ℕ). IsStep i c.compare_exchange.result v w) c.pipe_word.ensures c.compare_exchange.ensures.2.2, (λ hit. ne (eq-eqb _ _ hit)), o.0, o.1)
