-- When the first cell of a full row is free.
use Rattle.std.specs.Prelude.{nat_lt}
use Rattle.gates.proofs.Common.{Behind, Bool, Event, IsChainBefore, IsChainStart, IsChained, HasFreeCell, IsOfChain, IsReplied, IsSound, Kept, List, Req, Shows, Slot, Stands, added, and_left, and_right, ap, arith, begins_after, behind, bool_cases, cases_lt, eq-eqb, eqb-true, false, free_by, inl, inr, length, length-map, lt-ltb, ltb-true, nth, phase, refl, slice_get, slot_of, subst, sym, true, true≢false, ℕ, ⊎_elim, ◌&&◌, ◌+◌, ◌-◌, ◌<◌, ◌==◌, ◌||◌, ◌∙◌, ◌≡◌, ◌≢◌, ◌≤◌, ◌⊎◌}
use Rattle.gates.proofs.Lists.{get_there}
use Rattle.gates.proofs.Marks.{P, Join}
use Rattle.gates.proofs.Agreement.{Agrees, Each, shown, shown_fresh}
use Rattle.gates.proofs.Gates.{by_number}
use Rattle.gates.proofs.Standing.{behind_exact, older, oldest_pending, head_is}

module _ (xs : List Slot) (r : Kept) (sound : IsSound r) (stands : Stands xs r) (full : r.size ≤ length r.cells) where
  n : r.lost + length r.cells ≡ length xs
  n = stands.count

  exact : length r.cells ≡ r.size
  exact = let a = sound.fits in omega (arith, full)

  o_within : r.oldest ≤ length r.cells
  o_within = let a = sound.oldest.within in let b = length-map r.cells slot_of in omega arith

  -- the first request has replied
  pub first_done : 0 < r.oldest → P xs r.lost ≡ false
  first_done pos = older xs r sound stands r.lost (omega arith)

  pub free_pos : free_by r.lost r.cells r.oldest ≡ true → 0 < r.oldest
  free_pos e = ltb-true 0 r.oldest (and_left (nat_lt 0 r.oldest) ((r.oldest == length r.cells) || begins_after r.lost (slice_get r.cells r.oldest)) e)

  -- the head of the chain of the first request that has not replied
  head_there : r.oldest < length r.cells → (b : Bool) → begins_after r.lost (slice_get r.cells r.oldest) ≡ b → nat_lt r.lost (behind xs (r.lost + r.oldest)).head ≡ b
  head_there lt b e = let c = get_there r.cells r.oldest lt in sym (ap (λ (z : Behind). nat_lt r.lost z.head) (behind_exact xs r sound stands r.oldest c.0 c.1)) ∙ sym (ap (begins_after r.lost) c.1) ∙ e

  -- no member of the first request's chain is unanswered
  chain_done : free_by r.lost r.cells r.oldest ≡ true → (k : ℕ) → k < length xs → Join xs r.lost k → P xs k ≡ false
  chain_done e k lt j = ⊎_elim (λ (x : k < r.lost + r.oldest). older xs r sound stands k x)
      (λ (x : r.lost + r.oldest ≤ k). (let o : r.oldest < length r.cells = omega (arith, n) in
      let t = and_right (nat_lt 0 r.oldest) ((r.oldest == length r.cells) || begins_after r.lost (slice_get r.cells r.oldest)) e in
      let b : begins_after r.lost (slice_get r.cells r.oldest) ≡ true = or_right (r.oldest == length r.cells) _ t (not_eq o) in
      let hd = head_is xs (r.lost + r.oldest) (omega arith) in
      absurd (hd.alone r.lost (ltb-true r.lost _ (head_there o true b)) (λ m a c. j m a (omega arith)))))
      (cases_lt k (r.lost + r.oldest)) where
        or_right : (a b : Bool) → (a || b) ≡ true → a ≡ false → b ≡ true
        or_right true b u v = absurd (true≢false v)
        or_right false b u v = u

        not_eq : r.oldest < length r.cells → (r.oldest == length r.cells) ≡ false
        not_eq o = ⊎_elim (λ (w : (r.oldest == length r.cells) ≡ true). absurd (let u : r.oldest ≡ length r.cells = eqb-true r.oldest (length r.cells) w in omega arith)) (λ (w : (r.oldest == length r.cells) ≡ false). w) (bool_cases (r.oldest == length r.cells))

  -- who keeps the next request from its cell is pending, and joined to the first request
  pub way_joined : free_by r.lost r.cells r.oldest ≡ false → (r.oldest < length r.cells) × Join xs r.lost (r.lost + r.oldest)
  way_joined e = ⊎_elim
      (λ a. (let z : r.oldest ≡ 0 = ⊎_elim (λ (u : 0 < r.oldest). absurd (true≢false (sym (lt-ltb 0 r.oldest u) ∙ a))) (λ (u : r.oldest ≤ 0). omega arith) (cases_lt 0 r.oldest) in let s = sound.cell in
      (omega (arith, exact), λ m x y. absurd (omega arith))))
      (λ a. (let o : r.oldest < length r.cells = not_all a.0 in let hd = head_is xs (r.lost + r.oldest) (omega (arith, n)) in
      let le : (behind xs (r.lost + r.oldest)).head ≤ r.lost = ⊎_elim (λ (u : r.lost < (behind xs (r.lost + r.oldest)).head). absurd (true≢false (sym (lt-ltb r.lost _ u) ∙ head_there o false a.1))) (λ (u : (behind xs (r.lost + r.oldest)).head ≤ r.lost). u) (cases_lt r.lost (behind xs (r.lost + r.oldest)).head) in
      (o, λ m x y. hd.joined m (omega arith) y)))
      (parts (nat_lt 0 r.oldest) (r.oldest == length r.cells) (begins_after r.lost (slice_get r.cells r.oldest)) e) where
        parts : (a b c : Bool) → (a && (b || c)) ≡ false → (a ≡ false) ⊎ ((b ≡ false) × (c ≡ false))
        parts false b c u = inl refl
        parts true false c u = inr (refl, u)
        parts true true c u = absurd (true≢false u)

        not_all : (r.oldest == length r.cells) ≡ false → r.oldest < length r.cells
        not_all w = let ne : r.oldest ≢ length r.cells = λ u. true≢false (sym (eq-eqb r.oldest (length r.cells) u) ∙ w) in omega (arith, o_within)

  holder : added r - r.size ≡ r.lost
  holder = omega (arith, exact)

  pub way_chained : (h : List Event) (i : ℕ) (Live : ℕ → Type 0) → Agrees h i xs Live → free_by r.lost r.cells r.oldest ≡ false → (r.size ≤ added r) × IsOfChain h (nth i (r.lost + r.oldest)) (nth i (added r - r.size))
  way_chained h i Live agrees e = let w = way_joined e in let o : r.oldest < length r.cells = w.0 in (
    omega (arith, exact),
    subst (λ z. IsOfChain h (nth i (r.lost + r.oldest)) (nth i z)) (sym holder) (⊎_elim
        (λ (u : 0 < r.oldest). inr (inr (agrees.chain_shown r.lost (r.lost + r.oldest) (omega arith) (omega (arith, n)) w.1)))
        (λ (u : r.oldest ≤ 0). inl (ap (nth i) (let v : r.lost + r.oldest ≡ r.lost = omega arith in v)))
        (cases_lt 0 r.oldest)),
  )

  module _ (h : List Event) (i : ℕ) (shows : Shows h i xs) where
    pub free_law : free_by r.lost r.cells r.oldest ≡ true → HasFreeCell h r.size (nth i (added r))
    free_law e = inr (subst (λ z. IsReplied (phase h (nth i z)) × ((p : Req) → p.k < added r → IsChained h p (nth i z) → IsReplied (phase h p))) (sym holder) (
      (shown h i xs shows).replied_is r.lost (let p = free_pos e in omega (arith, n, o_within)) (first_done (free_pos e)),
      λ p lt c. ⊎_elim
          (λ x. (let u : p ≡ nth i p.k = by_number h i xs Each (shown h i xs shows) p (nth i r.lost) x.0.0 refl in let a : p.k < r.lost = x.0.1 in subst (λ z. IsReplied (phase h z)) (sym u) ((shown h i xs shows).replied_is p.k (omega (arith, n)) (stands.gone p.k a))))
          (λ x. (let u : p ≡ nth i p.k = by_number h i xs Each (shown h i xs shows) p (nth i r.lost) (sym x.0.0) refl in
          let j = (shown h i xs shows).chain_found r.lost p.k (omega (arith, n)) tt (subst (λ z. IsChainBefore h (nth i r.lost) z) u x) in
          subst (λ z. IsReplied (phase h z)) (sym u) ((shown h i xs shows).replied_is p.k (omega (arith, n)) (chain_done e p.k (omega (arith, n)) j)))) c,
    ))

    pub full_law : free_by r.lost r.cells r.oldest ≡ false → ¬ HasFreeCell h r.size (nth i (added r))
    full_law e f = ⊎_elim (λ a. omega (arith, exact, a)) (λ y. by_oldest (subst (λ z. IsReplied (phase h (nth i z)) × ((p : Req) → p.k < added r → IsChained h p (nth i z) → IsReplied (phase h p))) holder y)) f where
      by_oldest : IsReplied (phase h (nth i r.lost)) × ((p : Req) → p.k < added r → IsChained h p (nth i r.lost) → IsReplied (phase h p)) → ⊥
      by_oldest y = let w = way_joined e in let o : r.oldest < length r.cells = w.0 in
          shown_fresh h i xs shows (r.lost + r.oldest) (oldest_pending xs r sound stands o) (⊎_elim
          (λ (u : 0 < r.oldest). y.1 (nth i (r.lost + r.oldest)) (omega arith) (inr ((shown h i xs shows).chain_shown r.lost (r.lost + r.oldest) (omega arith) (omega (arith, n)) w.1)))
          (λ (u : r.oldest ≤ 0). subst (λ z. IsReplied (phase h (nth i z))) (let v : r.lost ≡ r.lost + r.oldest = omega arith in v) y.0)
          (cases_lt 0 r.oldest))

-- where the row has a cell for each of its requests and one more, the next one's is free
pub room_law : (xs : List Slot) (r : Kept) → IsSound r → Stands xs r → length r.cells < r.size → (h : List Event) (i : ℕ) → Shows h i xs → HasFreeCell h r.size (nth i (added r))
room_law xs r sound stands room h i shows = ⊎_elim
    (λ (a : added r < r.size). inl a)
    (λ (a : r.size ≤ added r). let t : ℕ = added r - r.size in let before : t < r.lost = omega arith in inr (
      replied t before,
      λ p lt c. ⊎_elim
          (λ x. (let u : p ≡ nth i p.k = by_number h i xs Each (shown h i xs shows) p (nth i t) x.0.0 refl in let y : p.k < t = x.0.1 in subst (λ z. IsReplied (phase h z)) (sym u) (replied p.k (omega arith))))
          (λ x. (let u : p ≡ nth i p.k = by_number h i xs Each (shown h i xs shows) p (nth i t) (sym x.0.0) refl in subst (λ z. IsReplied (phase h z)) (sym u) (⊎_elim
          (λ (y : p.k < r.lost). replied p.k y)
          (λ (y : r.lost ≤ p.k). absurd (crosses t before (λ m b d. (shown h i xs shows).chain_found t p.k (omega arith) tt (subst (λ z. IsChainBefore h (nth i t) z) u x) m b (omega arith))))
          (cases_lt p.k r.lost)))) c,
    ))
    (cases_lt (added r) r.size) where
      count : r.lost + length r.cells ≡ length xs
      count = stands.count

      replied : (m : ℕ) → m < r.lost → IsReplied (phase h (nth i m))
      replied m lt = (shown h i xs shows).replied_is m (omega (arith, count)) (stands.gone m lt)

      crosses : (t : ℕ) → t < r.lost → Join xs t r.lost → ⊥
      crosses t lt join = ⊎_elim
          (λ (u : IsChainStart xs r.lost). (head_is xs r.lost (omega (arith, count))).alone t (subst (λ (n : ℕ). t < n) (sym (ap (λ (b : Behind). b.head) u)) lt) join)
          (λ (u : length r.cells ≡ r.size). absurd (omega arith))
          stands.full
