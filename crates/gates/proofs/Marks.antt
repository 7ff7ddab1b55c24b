-- The marks that a walk over a list of entries finds: who joins the next, who severs, who is pending, who is severed or held up.
use Rattle.gates.proofs.Common.{Behind, Bool, List, Slot, Some, and_left, ap, arith, behind, false, hosts_of, is_pending, is_severing, joins_of, length, next_in, not, passes, refl, slice_get, subst, suc, sym, test_at, true, true≢false, zero, ℕ, ◌&&◌, ◌-◌, ◌<◌, ◌||◌, ◌∙◌, ◌≡◌, ◌≤◌, ◌⊎◌}
use Rattle.gates.proofs.Lists.{get_there}
use Rattle.gates.proofs.HandedMarks.{carried_by, carried_from}
use Rattle.gates.proofs.Bridge.{next_severed, next_held}

module _ (xs : List Slot) where
  abbrev pub J : ℕ → Bool
  J m = passes joins_of xs m

  abbrev pub H : ℕ → Bool
  H m = passes (is_severing (behind xs m).hosted) xs m

  abbrev pub P : ℕ → Bool
  P m = passes is_pending xs m

  abbrev pub S : ℕ → Bool
  S m = (behind xs m).severed

  abbrev pub W : ℕ → Bool
  W m = (behind xs m).held

  abbrev pub Join : ℕ → ℕ → Type 0
  Join m k = (j : ℕ) → m ≤ j → j < k → J j ≡ true

  pub step_severed : (k : ℕ) → k < length xs → S (suc k) ≡ (J k && (H k || S k))
  step_severed k lt = let t = get_there xs k lt in next_severed k (slice_get xs k) (behind xs k) t.0 t.1

  pub step_held : (k : ℕ) → k < length xs → W (suc k) ≡ (J k && (P k || W k))
  step_held k lt = let t = get_there xs k lt in next_held k (slice_get xs k) (behind xs k) t.0 t.1

  pub severed_by : (k : ℕ) → k ≤ length xs → S k ≡ true → (m : ℕ) × (m < k) × Join m k × (H m ≡ true)
  severed_by = carried_by J H S (length xs) refl step_severed

  pub severed_from : (k : ℕ) → k ≤ length xs → (m : ℕ) → m < k → Join m k → H m ≡ true → S k ≡ true
  severed_from = carried_from J H S (length xs) refl step_severed

  pub held_by : (k : ℕ) → k ≤ length xs → W k ≡ true → (m : ℕ) × (m < k) × Join m k × (P m ≡ true)
  held_by = carried_by J P W (length xs) refl step_held

  pub held_from : (k : ℕ) → k ≤ length xs → (m : ℕ) → m < k → Join m k → P m ≡ true → W k ≡ true
  held_from = carried_from J P W (length xs) refl step_held

  -- the entry drains
  abbrev pub Drains : ℕ → Type 0
  Drains k = (s : Slot) × (slice_get xs k ≡ Some s) × (s.traits.drains ≡ true)

  -- why the earlier entry m stands in the way of k
  abbrev pub Bars : ℕ → ℕ → Type 0
  Bars k m = (m < k) × (P m ≡ true) × (Join m k ⊎ (Drains m ⊎ Drains k))

  -- a hosted entry stands after one that joins it
  pub hosted_joined : (k : ℕ) → k ≤ length xs → (behind xs k).hosted ≡ true → (0 < k) × (J (k - 1) ≡ true)
  hosted_joined zero le e = absurd (true≢false (sym e))
  hosted_joined (suc k) le e =
      let t = get_there xs k (omega arith) in
      let u : hosts_of t.0 ≡ true = sym (ap (λ z. let b : Behind = next_in k z (behind xs k) in b.hosted) t.1) ∙ e in
      let v : J k ≡ true = ap (test_at joins_of) t.1 ∙ and_left (joins_of t.0) (not t.0.traits.link_timeout) u in
      (omega arith, subst (λ z. J z ≡ true) (let q : k ≡ suc k - 1 = omega arith in q) v)

  -- whom a request joins that is not severed, is not severed
  pub severed_next : (k : ℕ) → 0 < k → k ≤ length xs → J (k - 1) ≡ true → S k ≡ false → S (k - 1) ≡ false
  severed_next zero a le j e = absurd (omega arith)
  severed_next (suc k) a le j e =
      let q : suc k - 1 ≡ k = omega arith in subst (λ z. S z ≡ false) (sym q) (
      let u : (J k && (H k || S k)) ≡ false = sym (step_severed k (omega arith)) ∙ e in
      let j' : J k ≡ true = sym (ap J q) ∙ j in
      or_false (H k) (S k) (sym (ap (λ z. z && (H k || S k)) j') ∙ u)) where
        or_false : (x y : Bool) → (x || y) ≡ false → y ≡ false
        or_false true y v = absurd (true≢false v)
        or_false false y v = v
