-- A mark that each entry hands on to the next one of its chain, as the walk over the entries before it.
use Rattle.gates.proofs.Common.{Bool, and_left, and_right, ap, arith, bool_cases, eq-eqb, eqb-true, false, refl, suc, sym, true, true≢false, zero, ℕ, ⊎_elim, ◌&&◌, ◌<◌, ◌==◌, ◌||◌, ◌∙◌, ◌≡◌, ◌≤◌}

or_cases : (a b : Bool) → (a || b) ≡ true → ¬ (a ≡ true) → b ≡ true
or_cases true b e n = absurd (n refl)
or_cases false b e n = e

or_true : (a b : Bool) → b ≡ true → (a || b) ≡ true
or_true true b e = refl
or_true false b e = e

-- J: the entry joins the next; H: it makes the mark; F: the mark stands before the entry
module _ (J H F : ℕ → Bool) (n : ℕ) (none : F 0 ≡ false) (step : (k : ℕ) → k < n → F (suc k) ≡ (J k && (H k || F k))) where
  abbrev pub Joined : ℕ → ℕ → Type 0
  Joined m k = (j : ℕ) → m ≤ j → j < k → J j ≡ true

  joined_more : (m k : ℕ) → Joined m k → J k ≡ true → Joined m (suc k)
  joined_more m k l e j a b = ⊎_elim
      (λ (w : (j == k) ≡ true). ap J (eqb-true j k w) ∙ e)
      (λ (w : (j == k) ≡ false). let n' : ¬ (j ≡ k) = λ u. true≢false (sym (eq-eqb j k u) ∙ w) in l j a (omega arith))
      (bool_cases (j == k))

  -- the mark stands: an earlier entry of the chain made it
  pub carried_by : (k : ℕ) → k ≤ n → F k ≡ true → (m : ℕ) × (m < k) × Joined m k × (H m ≡ true)
  carried_by zero le is = absurd (true≢false (sym is ∙ none))
  carried_by (suc k) le is =
      let lt : k < n = omega arith in let e : (J k && (H k || F k)) ≡ true = sym (step k lt) ∙ is in
      let j : J k ≡ true = and_left (J k) (H k || F k) e in let o : (H k || F k) ≡ true = and_right (J k) (H k || F k) e in ⊎_elim
      (λ (w : H k ≡ true). let u : k < suc k = omega arith in (k, u, joined_more k k (λ i a b. absurd (omega arith)) j, w))
      (λ (w : H k ≡ false). let b = carried_by k (omega arith) (or_cases _ _ o (λ u. true≢false (sym u ∙ w))) in let u : b.0 < suc k = omega (arith, b.1) in
      (b.0, u, joined_more b.0 k b.2 j, b.3))
      (bool_cases (H k))

  -- an earlier entry of the chain made the mark: it stands
  pub carried_from : (k : ℕ) → k ≤ n → (m : ℕ) → m < k → Joined m k → H m ≡ true → F k ≡ true
  carried_from zero le m lt l is = absurd (omega arith)
  carried_from (suc k) le m lt l is =
      let j : J k ≡ true = l k (omega arith) (omega arith) in let s : k < n = omega arith in ⊎_elim
      (λ (w : (m == k) ≡ true). let e : H k ≡ true = sym (ap H (eqb-true m k w)) ∙ is in step k s ∙ rw (j, e) refl)
      (λ (w : (m == k) ≡ false). let n' : ¬ (m ≡ k) = λ u. true≢false (sym (eq-eqb m k u) ∙ w) in
      let e : F k ≡ true = carried_from k (omega arith) m (omega arith) (λ i a b. l i a (omega arith)) is in step k s ∙ rw (j, or_true (H k) (F k) e) refl)
      (bool_cases (m == k))
