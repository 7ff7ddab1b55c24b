use Rattle.board.proofs.Common.{AreFit, Entries, FitsOp, arith, drop, refl, subst, suc, sym, true≢false, ℕ, ◌+◌, ◌∙◌, ◌≡◌}
use Rattle.board.proofs.BatchesKept.{left_at, none_left}
use Rattle.board.proofs.batch.are_fit.Goals as goal

pub loop-sqe-init : goal.loop-sqe-init
loop-sqe-init c = (λ x. x, λ x. x)

pub returns-then-not-fits_length : goal.returns-then-not-fits_length
returns-then-not-fits_length c = let xs : Entries = c.args.batch.now in let x = c.loop-sqe-item.result in let at = left_at xs c.loop-sqe.sqe-index x c.loop-sqe-test.true c.loop-sqe-item.is in
    (λ no'. absurd (true≢false (sym no')), λ all. c.if-not-fits_length.ensures.1 (subst (FitsOp x.0.op) (sym (c.len.ensures ∙ x.1.ok.0)) (subst AreFit at (c.loop-sqe.invariant.0 all)).0))

pub loop-sqe-preserved : goal.loop-sqe-preserved
loop-sqe-preserved c = let xs : Entries = c.args.batch.now in let x = c.loop-sqe-item.result in let i = c.loop-sqe.sqe-index in let at = left_at xs i x c.loop-sqe-test.true c.loop-sqe-item.is in let more : suc i ≡ i + 1 = omega arith in
    let fits = subst (FitsOp x.0.op) (c.len.ensures ∙ x.1.ok.0) (c.if-not-fits_length.ensures.0 refl) in
    (λ all. subst (λ (n : ℕ). AreFit (drop n xs)) more (subst AreFit at (c.loop-sqe.invariant.0 all)).1, λ rest. c.loop-sqe.invariant.1 (subst AreFit (sym at) (fits, subst (λ (n : ℕ). AreFit (drop n xs)) (sym more) rest)))

pub returns : goal.returns
returns c = let xs : Entries = c.args.batch.now in let none = none_left xs c.loop-sqe.sqe-index (let f = c.loop-sqe-test.false in omega arith) in (λ _. c.loop-sqe.invariant.1 (subst AreFit (sym none) tt), λ _. refl)
