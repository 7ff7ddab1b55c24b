-- What the walks along a chain find.
use Rattle.model.proofs.Common.{Bool, Entry, List, Option, Request, Some, and_left, and_right, ap, arith, bool_cases, chain_done, common_steps, eq-eqb, eqb-true, false, handed_in, joins, not, not_true, pending_of, placed_in, refl, reply_in_of, severed_in, severs, severs_at, severs_by, slice_get, suc, sym, true, true≢false, zero, ℕ, ℤ, ⊎_elim, ◌<◌, ◌==◌, ◌||◌, ◌∙◌, ◌≡◌, ◌≤◌}

-- every entry from m on joins the next, up to k
abbrev pub Joined : List Request → ℕ → ℕ → Type 0
Joined xs m k = (j : ℕ) → m ≤ j → j < k → joins (handed_in xs j) ≡ true

or_cases : (a b : Bool) → (a || b) ≡ true → ¬ (a ≡ true) → b ≡ true
or_cases = grind (arith, common_steps)

-- one more entry joins
joined_more : (xs : List Request) (m k : ℕ) → Joined xs m k → joins (handed_in xs k) ≡ true → Joined xs m (suc k)
joined_more = grind (arith, common_steps)

joined_fewer : (xs : List Request) (m k : ℕ) → Joined xs m (suc k) → Joined xs m k
joined_fewer xs m k l j a b = l j a (omega arith)

joined_last : (xs : List Request) (m k : ℕ) → m < suc k → Joined xs m (suc k) → joins (handed_in xs k) ≡ true
joined_last xs m k lt l = l k (omega arith) (omega arith)

module _ (xs : List Request) where
  pub severed_by : (k : ℕ) → severed_in xs k ≡ true → (m : ℕ) × (m < k) × Joined xs m k × (severs_at xs m ≡ true)
  severed_by zero is = absurd (true≢false (sym is))
  severed_by (suc k) is =
      let j : joins (handed_in xs k) ≡ true = and_left (joins (handed_in xs k)) (severs_at xs k || severed_in xs k) is in let o : (severs_at xs k || severed_in xs k) ≡ true = and_right (joins (handed_in xs k)) (severs_at xs k || severed_in xs k) is in ⊎_elim
      (λ (w : severs_at xs k ≡ true). let lt : k < suc k = omega arith in
      (k, lt, joined_more xs k k (λ i a b. absurd (omega arith)) j, w))
      (λ (w : severs_at xs k ≡ false). let b = severed_by k (or_cases _ _ o (λ u. true≢false (sym u ∙ w))) in let lt : b.0 < suc k = omega (arith, b.1) in
      (b.0, lt, joined_more xs b.0 k b.2 j, b.3))
      (bool_cases (severs_at xs k))

  pub severed_from : (k m : ℕ) → m < k → Joined xs m k → severs_at xs m ≡ true → severed_in xs k ≡ true
  severed_from zero m lt l is = absurd (omega arith)
  severed_from (suc k) m lt l is =
      let j = joined_last xs m k lt l in ⊎_elim
      (λ (w : (m == k) ≡ true). let e : severs_at xs k ≡ true = sym (ap (severs_at xs) (eqb-true m k w)) ∙ is in rw (j, e) refl)
      (λ (w : (m == k) ≡ false). let n : ¬ (m ≡ k) = λ u. true≢false (sym (eq-eqb m k u) ∙ w) in let e : severed_in xs k ≡ true = severed_from k m (omega arith) (joined_fewer xs m k l) is in
      rw (j, e) (elim (severs_at xs k) as (λ b. (b || true) ≡ true) [ true ↦ refl | false ↦ refl ]))
      (bool_cases (m == k))

  pub done_by : (k : ℕ) → chain_done xs k ≡ true → (m : ℕ) → m < k → Joined xs m k → pending_of (slice_get xs m) ≡ false
  done_by zero is m lt l = absurd (omega arith)
  done_by (suc k) is m lt l =
      let j = joined_last xs m k lt l in let o = or_cases _ _ is (λ u. (let v : false ≡ true = ap not (sym j) ∙ u in true≢false (sym v))) in ⊎_elim
      (λ (w : (m == k) ≡ true). ap (λ z. pending_of (slice_get xs z)) (eqb-true m k w) ∙ not_true _ (λ u. (let v : false ≡ true = ap not (sym u) ∙ and_left _ _ o in true≢false (sym v))))
      (λ (w : (m == k) ≡ false). let n : ¬ (m ≡ k) = λ u. true≢false (sym (eq-eqb m k u) ∙ w) in done_by k (and_right _ _ o) m (omega arith) (joined_fewer xs m k l))
      (bool_cases (m == k))

  pub done_from : (k : ℕ) → ((m : ℕ) → m < k → Joined xs m k → pending_of (slice_get xs m) ≡ false) → chain_done xs k ≡ true
  done_from zero all = refl
  done_from (suc k) all = ⊎_elim
      (λ (w : joins (handed_in xs k) ≡ true).
      let p : pending_of (slice_get xs k) ≡ false = all k (omega arith) (joined_more xs k k (λ i a b. absurd (omega arith)) w) in
      let r : chain_done xs k ≡ true = done_from k (λ m lt l. all m (omega arith) (joined_more xs m k l w)) in rw (w, p, r) refl)
      (λ (w : joins (handed_in xs k) ≡ false). rw w refl)
      (bool_cases (joins (handed_in xs k)))

severs_parts : (a : Option Entry) (b : Option ℤ) → severs_by a b ≡ true → (e : Entry) × (res : ℤ) × (a ≡ Some e) × (b ≡ Some res) × (severs e res ≡ true)
severs_parts (Some e) (Some res) is = (e, res, refl, refl, is)
severs_parts _ _ is = absurd (true≢false (sym is))

pub severs_at_by : (xs : List Request) (k : ℕ) → severs_at xs k ≡ true → (e : Entry) × (res : ℤ) × (placed_in xs k ≡ Some e) × (reply_in_of (slice_get xs k) ≡ Some res) × (severs e res ≡ true)
severs_at_by xs k is = severs_parts (placed_in xs k) (reply_in_of (slice_get xs k)) is

pub severs_at_from : (xs : List Request) (k : ℕ) (e : Entry) (res : ℤ) → placed_in xs k ≡ Some e → reply_in_of (slice_get xs k) ≡ Some res → severs e res ≡ true → severs_at xs k ≡ true
severs_at_from xs k e res p r is = ap (λ z. severs_by z (reply_in_of (slice_get xs k))) p ∙ ap (severs_by (Some e)) r ∙ is
