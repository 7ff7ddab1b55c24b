use Rattle.board.proofs.Common.{IsBoard, Paid, arith, cells_in, counts_at, leb-false, leb-true, subst, suc, sym, ℕ, ◌+◌, ◌-◌, ◌<◌, ◌∙◌, ◌≡◌, ◌≤◌}
use Rattle.board.proofs.Countings.{IsCounted, byte_is, looks_all, counted_all, counted_enough, counted_looks, counted_more, counted_unborn}
use Rattle.board.proofs.RowLaws.{small_number}
use Rattle.board.proofs.Watching.{paid_add, paid_most, paid_one, watched_then}
use Rattle.board.proofs.counting.has_counted.Goals as goal
use Rattle.board.proofs.counting.has_counted.Goals.{then-loop-k-test+else-found-count, else-loop-k-test}

pub overflow_add-end : goal.overflow_add-end
overflow_add-end c = let b = c.args.board.now in let q = c.args.req in let r = c.requires in let cells : c.cells_in.result ≡ cells_in b.layout.cells q.ring = c.cells_in.ensures ∙ (λ i. cells_in (c.board.view_is i).layout.cells (c.from.ensures i)) in let k = subst IsBoard c.board.view_is c.board.invariant.0 in let few = (counts_at b.layout.cells q.ring k.cells.0 r.numbered.there).1 in let low = small_number b q k r.numbered in omega arith

pub overflow_add-k : goal.overflow_add-k
overflow_add-k c = let b = c.args.board.now in let q = c.args.req in let r = c.requires in let cells : c.cells_in.result ≡ cells_in b.layout.cells q.ring = c.cells_in.ensures ∙ (λ i. cells_in (c.board.view_is i).layout.cells (c.from.ensures i)) in let k = subst IsBoard c.board.view_is c.board.invariant.0 in let few = (counts_at b.layout.cells q.ring k.cells.0 r.numbered.there).1 in let low = small_number b q k r.numbered in omega arith

pub overflow_add-k-in-loop-k : goal.overflow_add-k-in-loop-k
overflow_add-k-in-loop-k c = let b = c.args.board.now in let q = c.args.req in let r = c.requires in let cells : c.cells_in.result ≡ cells_in b.layout.cells q.ring = c.cells_in.ensures ∙ (λ i. cells_in (c.board.view_is i).layout.cells (c.from.ensures i)) in let k = subst IsBoard c.board.view_is c.board.invariant.0 in let few = (counts_at b.layout.cells q.ring k.cells.0 r.numbered.there).1 in let low = small_number b q k r.numbered in let lt = c.loop-k-test.true in omega arith

pub returns-in_default-clause-watched : goal.returns-in_default-clause-watched
returns-in_default-clause-watched c = watched_then c.args.board.now c.args.seat.now c.loop-k.seat c.has_replied.new.seat c.loop-k.invariant.watched c.has_replied.ensures.watched

pub returns-in_default-clause-fewer : goal.returns-in_default-clause-fewer
returns-in_default-clause-fewer c = λ _. counted_unborn c.args.board.now c.args.seat.now c.loop-k.seat c.has_replied.new.seat c.args.req c.loop-k.k c.loop-k.found c.loop-k.invariant c.has_replied.ensures.watched c.args.count (c.in_default.ensures.told) c.if-found-count.true

pub returns-in_default-clause-steps : goal.returns-in_default-clause-steps
returns-in_default-clause-steps c = let b = c.args.board.now in let q = c.args.req in let r = c.requires in let cells : c.cells_in.result ≡ cells_in b.layout.cells q.ring = c.cells_in.ensures ∙ (λ i. cells_in (c.board.view_is i).layout.cells (c.from.ensures i)) in let s = c.args.seat.now in let t = c.loop-k.seat in let u = c.has_replied.new.seat in let n : ℕ = c.loop-k.k - (q.k + 1) in let low = c.loop-k.invariant.low in let lt = c.loop-k-test.true in
    paid_most s.me.0 u.me.0 (n + 1) (cells_in b.layout.cells q.ring - 1) (paid_add s.me.0 t.me.0 u.me.0 n 1 (subst (λ (m : ℕ). Paid s.me.0 t.me.0 0 m) (let e : c.loop-k.k - suc q.k ≡ n = omega arith in e) c.loop-k.invariant.paid) (paid_one _ _ t.me.0 u.me.0 c.has_replied.ensures.step.5)) (omega arith)

pub returns-in_default-clause-looks : goal.returns-in_default-clause-looks
returns-in_default-clause-looks c = let b = c.args.board.now in let q = c.args.req in let r = c.requires in let cells : c.cells_in.result ≡ cells_in b.layout.cells q.ring = c.cells_in.ensures ∙ (λ i. cells_in (c.board.view_is i).layout.cells (c.from.ensures i)) in let lt = c.loop-k-test.true in
    looks_all b c.args.seat.now c.loop-k.seat c.has_replied.new.seat q c.loop-k.k c.loop-k.found c.loop-k.invariant c.has_replied.ensures.watched c.has_replied.ensures.step (let z : c.loop-k.k < q.k + cells_in b.layout.cells q.ring = omega arith in z)

pub loop-k-preserved : goal.loop-k-preserved
loop-k-preserved c = let b = c.args.board.now in let q = c.args.req in let r = c.requires in let cells : c.cells_in.result ≡ cells_in b.layout.cells q.ring = c.cells_in.ensures ∙ (λ i. cells_in (c.board.view_is i).layout.cells (c.from.ensures i)) in let lt = c.loop-k-test.true in
    subst (λ (m : ℕ). IsCounted b c.args.seat.now c.has_replied.new.seat q (c.loop-k.k + 1) (c.loop-k.found + m)) (sym (c.from-found.ensures ∙ byte_is c.in-Some.replied))
    (counted_more b c.args.seat.now c.loop-k.seat c.has_replied.new.seat q c.loop-k.k c.loop-k.found c.loop-k.invariant c.has_replied.ensures.watched c.in-Some.replied (c.in-Some.ensures.told) c.has_replied.ensures.step (let z : c.loop-k.k < q.k + cells_in b.layout.cells q.ring = omega arith in z))

pub returns-clause-enough : goal.returns-clause-enough
returns-clause-enough c = λ is. counted_enough c.args.board.now c.args.seat.now c.loop-k.seat c.args.req c.loop-k.k c.loop-k.found c.args.count c.loop-k.invariant (leb-true c.args.count c.loop-k.found is)

pub returns-clause-fewer : goal.returns-clause-fewer
returns-clause-fewer c = λ is. (let b = c.args.board.now in let q = c.args.req in let r = c.requires in let cells : c.cells_in.result ≡ cells_in b.layout.cells q.ring = c.cells_in.ensures ∙ (λ i. cells_in (c.board.view_is i).layout.cells (c.from.ensures i)) in let lt : c.loop-k.found < c.args.count = leb-false c.args.count c.loop-k.found is in
    let over : q.k + cells_in b.layout.cells q.ring ≤ c.loop-k.k = elim c.loop-k-test.branch [
      | then-loop-k-test+else-found-count w ↦ absurd (let z = w.if-found-count.false in omega arith)
      | else-loop-k-test w ↦ let z = w.loop-k-test.false in omega arith
    ] in counted_all b c.args.seat.now c.loop-k.seat q c.loop-k.k c.loop-k.found c.args.count c.loop-k.invariant over r.held lt)

pub returns-clause-looks : goal.returns-clause-looks
returns-clause-looks c = counted_looks c.args.board.now c.args.seat.now c.loop-k.seat c.args.req c.loop-k.k c.loop-k.found c.args.count c.loop-k.invariant
