use Rattle.board.proofs.Common.{IsFree, arith, bool_cases, cells_in, eq-eqb, eqb-true, events_of, false, nth, refl, subst, sym, ap, true, true≢false, List, ℕ, ⊎_elim, ◌+◌, ◌/◌, ◌<◌, ◌==◌, ◌∙◌, ◌≡◌}
use Rattle.board.proofs.queue.are_known_free.Goals as goal

pub loop-i-init : goal.loop-i-init
loop-i-init c = (
  λ m lt. absurd (omega arith),
  λ s l same. (
    λ m lt. absurd (omega arith),
    (c.args.queue.now.done, (let near = l.1.near in let e = ap (λ (K : List ℕ). cells_in K c.args.queue.now.ring) same in omega arith), l),
  ),
)

-- what is so of those before the i-th, and of the i-th, is so of all up to it
up_to : (P : ℕ → Type 0) (i : ℕ) → ((m : ℕ) → m < i → P m) → P i → (m : ℕ) → m < i + 1 → P m
up_to P i before here m lt = ⊎_elim
    (λ (e : (m == i) ≡ true). subst P (sym (eqb-true m i e)) here)
    (λ (e : (m == i) ≡ false). let n : ¬ (m ≡ i) = λ u. true≢false (sym (eq-eqb m i u) ∙ e) in before m (omega arith)) (bool_cases (m == i))

pub loop-i-preserved : goal.loop-i-preserved
loop-i-preserved c = let p = c.loop-i.invariant in let h = c.if-not-is_known_free.ensures in let a = c.args.queue.now in let K = c.args.grid.now in (
  up_to (λ m. (a.next + m) / cells_in K a.ring < 16777215) c.loop-i.i p.0 (h.fresh refl),
  λ s l same. (let q = p.1 s l same in let f = h.free refl s q.1.0 q.1.2 same q.1.1 in (
    up_to (λ m. IsFree K (events_of s.me.0.seen) (nth a.ring (a.next + m))) c.loop-i.i q.0 f.0,
    (f.1.0, (let lt = f.1.1 in omega arith), f.1.2),
  )),
)

pub returns-clause-free : goal.returns-clause-free
returns-clause-free c = λ _ s l same i lt. (c.loop-i.invariant.1 s l same).0 i (let end = c.loop-i-test.false in let most = c.loop-i.auto.i-end in omega arith)
