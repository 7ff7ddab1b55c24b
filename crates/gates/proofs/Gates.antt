-- What a history says of chains and drains, by the marks of the list that agrees with it.
use Rattle.gates.proofs.Common.{Event, IsBefore, IsChainBefore, IsClear, IsPlaced, IsReplied, List, Req, Severed, Slot, Some, arith, bool_cases, false, inl, inr, length, nth, phase, refl, replied_of_reply, reply, subst, sym, true, true≢false, ℕ, ⊎_elim, ◌<◌, ◌∙◌, ◌≡◌, ◌≤◌}
use Rattle.gates.proofs.Bridge.{nobody}
use Rattle.gates.proofs.Marks.{P, S, Join, Bars, severed_by, severed_from}
use Rattle.gates.proofs.Agreement.{Agrees}

module _ (h : List Event) (i : ℕ) (xs : List Slot) (Live : ℕ → Type 0) (agrees : Agrees h i xs Live) where
  pub severed_shown : (k : ℕ) → k ≤ length xs → S xs k ≡ true → Severed h (nth i k)
  severed_shown k le is =
      let b = severed_by xs k le is in let lt : b.0 < length xs = omega (arith, b.1) in
      let v = agrees.severs_shown b.0 lt (b.2 b.0 (omega arith) b.1) b.3 in
      (nth i b.0, v.0, v.1, agrees.chain_shown b.0 k b.1 le b.2, v.2, v.3, v.4)

  -- a request of this ring, by its number
  pub by_number : (q r : Req) → q.ring ≡ r.ring → r.ring ≡ i → q ≡ nth i q.k
  by_number q r a b z = record { ring = (a ∙ b) z; k = q.k }

  -- no earlier member of the chain has replied and is pending in the list
  abbrev pub Quiet : ℕ → Type 0
  Quiet k = (m : ℕ) → m < k → Join xs m k → P xs m ≡ true → ¬ IsReplied (phase h (nth i m))

  pub severed_found : (k : ℕ) → k < length xs → Live k → Quiet k → Severed h (nth i k) → S xs k ≡ true
  severed_found k le live quiet v =
      let m : ℕ = v.0.k in let e : v.0 ≡ nth i m = by_number v.0 (nth i k) v.3.0.0 refl in let lt : m < k = v.3.0.1 in let in' : m < length xs = omega arith in
      let c = subst (λ z. IsChainBefore h z (nth i k)) e v.3 in
      let j = agrees.chain_found m k le live c in let r = subst (λ z. reply h z ≡ Some v.2) e v.5 in
      let done : P xs m ≡ false = ⊎_elim (λ (w : P xs m ≡ true). absurd (quiet m lt j w (replied_of_reply nobody (phase h (nth i m)) v.2 r))) (λ (w : P xs m ≡ false). w) (bool_cases (P xs m)) in
      severed_from xs k (omega arith) m lt j (agrees.severs_found m k in' live c done v.1 v.2 (subst (λ z. IsPlaced h z v.1) e v.4) r v.6)

  -- who stands in the way, and has not replied, keeps the gate shut
  pub barred : (k m : ℕ) → k < length xs → Bars xs k m → ¬ IsReplied (phase h (nth i m)) → ¬ IsClear h (nth i k)
  barred k m lt b unanswered c = unanswered (⊎_elim
      (λ j. c.chain (nth i m) (agrees.chain_shown m k b.0 (omega arith) j))
      (λ d. ⊎_elim
      (λ x. let y = agrees.drains_shown m (let a : m < k = b.0 in omega arith) x in c.drains_before (nth i m) y.0 (refl, b.0) y.1 y.2)
      (λ x. let y = agrees.drains_shown k lt x in c.drain y.0 y.1 y.2 (nth i m) (refl, b.0)) d) b.2)

  -- nothing stands in the way
  pub clear_shown : (k : ℕ) → k < length xs → Live k → S xs k ≡ false → ((m : ℕ) → ¬ Bars xs k m) → IsClear h (nth i k)
  clear_shown k lt live sev bars = record {
    unsevered = λ v. true≢false (sym (severed_found k lt live (λ m a j p. absurd (bars m (a, p, inl j))) v) ∙ sev);
    chain = λ q c. answered q c.0 (λ m e n. bars m (n.0, n.1, inl (agrees.chain_found m k lt live (subst (λ z. IsChainBefore h z (nth i k)) e c))));
    drains_before = λ q d b p is. answered q b (λ m e n. let a : m < k = n.0 in bars m (n.0, n.1, inr (inl (agrees.drains_found m (omega arith) (inl n.1) d (subst (λ z. IsPlaced h z d) e p) is))));
    drain = λ d p is q b. answered q b (λ m e n. bars m (n.0, n.1, inr (inr (agrees.drains_found k lt (inr live) d p is))));
  } where
    answered : (q : Req) → IsBefore q (nth i k) → ((m : ℕ) → q ≡ nth i m → (m < k) × (P xs m ≡ true) → ⊥) → IsReplied (phase h q)
    answered q b f =
        let e : q ≡ nth i q.k = by_number q (nth i k) b.0 refl in let a : q.k < k = b.1 in ⊎_elim
        (λ (w : P xs q.k ≡ true). absurd (f q.k e (a, w)))
        (λ (w : P xs q.k ≡ false). subst (λ z. IsReplied (phase h z)) (sym e) (agrees.replied_is q.k (omega arith) w)) (bool_cases (P xs q.k))
