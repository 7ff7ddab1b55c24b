use Rattle.board.proofs.Common.{IsFree, IsQueue, IsCellOf, Queue, List, Cell, ap, arith, bool_cases, cells_in, eq-eqb, eqb-true, events_of, false, get_or, nth, refl, subst, sym, true, true≢false, ℕ, ⊎_elim, ◌+◌, ◌-◌, ◌<◌, ◌==◌, ◌∙◌, ◌≡◌, ◌≤◌}
use Rattle.board.proofs.OwnCells.{same_default}
use Rattle.board.proofs.QueuesKept.{queue_cell, not_free, free_by_age, reaped_by_age}
use Rattle.board.proofs.QueueWalks.{cell_on}
use Rattle.board.proofs.queue.first_unreaped.Goals as goal

pub loop-i-init : goal.loop-i-init
loop-i-init c = λ m lt. absurd (omega arith)

pub index-requires : goal.index-requires
index-requires c = let w = c.requires.queue in let k = c.args.queue.now.next + c.loop-i.i in let cell = cell_on c.args.grid.now w.0.me.0.layout.cells c.args.queue.now.ring k c.in-Some.cell w.2 c.in-Some.ensures.some c.in-Some.ensures.number in
    subst (λ (z : ℕ). c.in-Some.cell.number < z) (sym c.args.queue.now.ages.ok.0) (queue_cell w.0 c.args.queue.now k c.in-Some.cell w.1 cell).0

pub returns-then-from-cell-clause-some : goal.returns-then-from-cell-clause-some
returns-then-from-cell-clause-some c = let k = c.args.queue.now.next + c.loop-i.i in let lt = c.loop-i-test.true in (
  omega arith,
  omega arith,
  λ s l same free. (let cell = cell_on c.args.grid.now s.me.0.layout.cells c.args.queue.now.ring k c.in-Some.cell same c.in-Some.ensures.some c.in-Some.ensures.number in
      let long = (queue_cell s c.args.queue.now k c.in-Some.cell l cell).0 in let read = c.index.ensures ∙ same_default c.args.queue.now.ages.items c.in-Some.cell.number c.index.result.now 0 long in
      not_free s c.args.queue.now k c.in-Some.cell l cell (omega arith) (λ e. c.if-from-cell.true (c.from.ensures ∙ (read ∙ e))) (subst (λ (K : List ℕ). IsFree K (events_of s.me.0.seen) (nth c.args.queue.now.ring k)) same free)),
)

pub loop-i-preserved : goal.loop-i-preserved
loop-i-preserved c = λ m lt. let k = c.args.queue.now.next + c.loop-i.i in let w = c.requires.queue in
    let own = cell_on c.args.grid.now w.0.me.0.layout.cells c.args.queue.now.ring k c.in-Some.cell w.2 c.in-Some.ensures.some c.in-Some.ensures.number in
    let long = (queue_cell w.0 c.args.queue.now k c.in-Some.cell w.1 own).0 in let read = c.index.ensures ∙ same_default c.args.queue.now.ages.items c.in-Some.cell.number c.index.result.now 0 long in ⊎_elim
    (λ (e : (m == c.loop-i.i) ≡ true). subst (λ (z : ℕ). (o : Cell) × IsCellOf c.args.grid.now c.args.queue.now.ring (c.args.queue.now.next + z) o × (get_or c.args.queue.now.ages.items o.number 0 ≡ o.generation)) (sym (eqb-true m c.loop-i.i e))
    (c.in-Some.cell, cell_on c.args.grid.now c.args.grid.now c.args.queue.now.ring k c.in-Some.cell refl c.in-Some.ensures.some c.in-Some.ensures.number, sym read ∙ (sym c.from.ensures ∙ c.if-from-cell.false)))
    (λ (e : (m == c.loop-i.i) ≡ false). let n : ¬ (m ≡ c.loop-i.i) = λ u. true≢false (sym (eq-eqb m c.loop-i.i u) ∙ e) in c.loop-i.invariant m (omega arith)) (bool_cases (m == c.loop-i.i))

pub returns-clause-none : goal.returns-clause-none
returns-clause-none c = λ s a kept l same le i lt. let k = c.args.queue.now.next + i in let end = c.loop-i-test.false in let most = c.loop-i.auto.i-end in let o = c.loop-i.invariant i (omega arith) in let b : Queue = record c.args.queue.now { done = a.done } in
    subst (λ (K : List ℕ). IsFree K (events_of s.me.0.seen) (nth c.args.queue.now.ring k)) (sym same)
    (free_by_age s b k o.0 (subst (λ (z : Queue). IsQueue s z) kept l) (subst (λ (K : List ℕ). IsCellOf K c.args.queue.now.ring k o.0) same o.1) (let e = ap (λ (K : List ℕ). cells_in K c.args.queue.now.ring) same in omega arith) o.2)

pub returns-clause-reaped : goal.returns-clause-reaped
returns-clause-reaped c = λ s k l same low lt. let n : ℕ = cells_in c.args.grid.now c.args.queue.now.ring in let next = c.args.queue.now.next in
    let near : next ≤ c.args.queue.now.done + n = (let z = l.1.near in let e = ap (λ (K : List ℕ). cells_in K c.args.queue.now.ring) same in omega arith) in let i : ℕ = k + n - next in let at : next + i ≡ k + n = omega arith in
    let end = c.loop-i-test.false in let most = c.loop-i.auto.i-end in let o = c.loop-i.invariant i (omega arith) in
    reaped_by_age s c.args.queue.now (next + i) o.0 l (subst (λ (K : List ℕ). IsCellOf K c.args.queue.now.ring (next + i) o.0) same o.1) o.2 (nth c.args.queue.now.ring k) refl (let e = ap (λ (K : List ℕ). cells_in K c.args.queue.now.ring) same in omega arith)
