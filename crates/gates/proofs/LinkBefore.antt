-- The nearest earlier member of a request's chain that is pending, as a row finds it.
use Rattle.gates.proofs.Common.{Bool, Event, HasNotSevered, HaveGoneOn, IsChainBefore, IsLink, IsSound, Kept, List, None, Option, Req, Slot, Some, Stands, and_left, ap, arith, bool_cases, cases_lt, cond, false, held_at, is_pending, length, link_in, map, nearest_in, none-some, nth, numbered, passes, refl, severs, slot_of, subst, suc, sym, true, true≢false, zero, ℕ, ⊎_elim, ◌+◌, ◌<◌, ◌||◌, ◌∙◌, ◌≡◌, ◌≤◌}
use Rattle.gates.proofs.Lists.{one_some}
use Rattle.gates.proofs.Marks.{J, P, S, W, Join, severed_from, step_held, held_from}
use Rattle.gates.proofs.Agreement.{Agrees}
use Rattle.gates.proofs.Standing.{test_exact, held_exact}

module _ (xs : List Slot) (r : Kept) (sound : IsSound r) (stands : Stands xs r) where
  -- p is the nearest earlier member of the chain of j that is pending
  pub record Names (j p : ℕ) : Type 0 where
    pub before : p < j
    pub joined : Join xs (r.lost + p) (r.lost + j)
    pub pending : P xs (r.lost + p) ≡ true
    pub between : (n : ℕ) → r.lost + p < n → n < r.lost + j → P xs n ≡ false

  abbrev nearer : ℕ → Bool → Bool → Option ℕ
  nearer j w a = cond w (cond a (Some j) (nearest_in r.cells j)) None

  module _ (j : ℕ) (lt : suc j < length r.cells) where
    last : (n : ℕ) → n < r.lost + suc j → r.lost + j ≤ n → r.lost + j ≡ n
    last n x y = omega arith

    held_is : held_at r.cells (suc j) ≡ W xs (suc (r.lost + j))
    held_is = held_exact xs r sound stands (suc j) lt ∙ ap (W xs) (let e : r.lost + suc j ≡ suc (r.lost + j) = omega arith in e)

    pending_is : (b : Bool) → passes is_pending (map slot_of r.cells) j ≡ b → P xs (r.lost + j) ≡ b
    pending_is b e = sym (test_exact xs r sound stands is_pending j (omega arith)) ∙ e

    joins_it : held_at r.cells (suc j) ≡ true → J xs (r.lost + j) ≡ true
    joins_it e = and_left (J xs (r.lost + j)) (P xs (r.lost + j) || W xs (r.lost + j)) (sym (step_held xs (r.lost + j) (let n : r.lost + length r.cells ≡ length xs = stands.count in omega arith)) ∙ sym held_is ∙ e)

    named_step : (p : ℕ) → (nearest_in r.cells j ≡ Some p → Names j p) → (w a : Bool) → held_at r.cells (suc j) ≡ w → passes is_pending (map slot_of r.cells) j ≡ a → nearer j w a ≡ Some p → Names (suc j) p
    named_step p more false a u v e = absurd (none-some p e)
    named_step p more true true u v e = subst (Names (suc j)) (one_some j p e) (record {
      before = omega arith;
      joined = λ n x y. subst (λ z. J xs z ≡ true) (last n y x) (joins_it u);
      pending = pending_is true v;
      between = λ n x y. absurd (omega arith);
    })
    named_step p more true false u v e = let m = more e in let b = m.before in record {
      before = omega arith;
      joined = λ n x y. ⊎_elim (λ (w : n < r.lost + j). m.joined n x w) (λ (w : r.lost + j ≤ n). subst (λ z. J xs z ≡ true) (last n y w) (joins_it u)) (cases_lt n (r.lost + j));
      pending = m.pending;
      between = λ n x y. ⊎_elim (λ (w : n < r.lost + j). m.between n x w) (λ (w : r.lost + j ≤ n). subst (λ z. P xs z ≡ false) (last n y w) (pending_is false v)) (cases_lt n (r.lost + j));
    }

    nobody_step : (nearest_in r.cells j ≡ None → (m : ℕ) → m < r.lost + j → Join xs m (r.lost + j) → P xs m ≡ false) → (w a : Bool) → held_at r.cells (suc j) ≡ w → passes is_pending (map slot_of r.cells) j ≡ a → nearer j w a ≡ None → (m : ℕ) → m < r.lost + suc j → Join xs m (r.lost + suc j) → P xs m ≡ false
    nobody_step more false a u v e m below l = ⊎_elim
        (λ (p : P xs m ≡ true). absurd (true≢false (sym (held_from xs (r.lost + suc j) (let n : r.lost + length r.cells ≡ length xs = stands.count in omega arith) m below l p) ∙ sym (held_exact xs r sound stands (suc j) lt) ∙ u)))
        (λ (p : P xs m ≡ false). p) (bool_cases (P xs m))
    nobody_step more true true u v e m below l = absurd (none-some j (sym e))
    nobody_step more true false u v e m below l = ⊎_elim
        (λ (w : m < r.lost + j). more e m w (λ n x y. l n x (omega arith)))
        (λ (w : r.lost + j ≤ m). subst (λ z. P xs z ≡ false) (last m below w) (pending_is false v)) (cases_lt m (r.lost + j))

  pub named : (j : ℕ) → j < length r.cells → (p : ℕ) → nearest_in r.cells j ≡ Some p → Names j p
  named zero lt p e = absurd (none-some p e)
  named (suc j) lt p e = named_step j lt p (named j (omega arith) p) (held_at r.cells (suc j)) (passes is_pending (map slot_of r.cells) j) refl refl e

  -- where nobody is named none of its chain before it is pending
  nobody_named : (j : ℕ) → j < length r.cells → nearest_in r.cells j ≡ None → (m : ℕ) → m < r.lost + j → Join xs m (r.lost + j) → P xs m ≡ false
  nobody_named zero lt e = λ m below l. stands.gone m (omega arith)
  nobody_named (suc j) lt e = nobody_step j lt (nobody_named j (omega arith)) (held_at r.cells (suc j)) (passes is_pending (map slot_of r.cells) j) refl refl e

  module _ (j : ℕ) (lt : j < length r.cells) (h : List Event) (i : ℕ) (Live : ℕ → Type 0) (agrees : Agrees h i xs Live) (live : Live (r.lost + j)) (free : S xs (r.lost + j) ≡ false) where
    k_within : r.lost + j < length xs
    k_within = let n : r.lost + length r.cells ≡ length xs = stands.count in omega (arith, lt)

    -- a member of the chain that is not pending has replied, and not severed the chain
    gone_on : (m : ℕ) → IsChainBefore h (nth i m) (nth i (r.lost + j)) → P xs m ≡ false → HasNotSevered h (nth i m)
    gone_on m c p = let pos : m < r.lost + j = c.0.1 in let join = agrees.chain_found m (r.lost + j) k_within live c in (
      agrees.replied_is m (omega (arith, k_within)) p,
      λ x res placed reply. ⊎_elim
          (λ (v : severs x res ≡ true). absurd (true≢false (sym (severed_from xs (r.lost + j) (omega (arith, k_within)) m pos join (agrees.severs_found m (r.lost + j) (omega (arith, k_within)) live c p x res placed reply v)) ∙ free)))
          (λ (v : severs x res ≡ false). v)
          (bool_cases (severs x res)),
    )

    -- those of the chain from the n-th on have gone on, where none of them is pending
    all_gone_on : (n : ℕ) → ((m : ℕ) → n ≤ m → m < r.lost + j → Join xs m (r.lost + j) → P xs m ≡ false) → HaveGoneOn h (nth i (r.lost + j)) n
    all_gone_on n none q le c =
        let at : nth i q.k ≡ q = ap (λ z. nth z q.k) (sym c.0.0) in let c' = subst (λ (z : Req). IsChainBefore h z (nth i (r.lost + j))) (sym at) c in
        subst (λ (z : Req). HasNotSevered h z) at (gone_on q.k c' (none q.k le c.0.1 (agrees.chain_found q.k (r.lost + j) k_within live c')))

    -- the row names the nearest one that is pending
    pub link_law : IsLink h (nth i (r.lost + j)) (link_in r j)
    link_law = by_name (nearest_in r.cells j) refl where
      by_name : (o : Option ℕ) → nearest_in r.cells j ≡ o → IsLink h (nth i (r.lost + j)) (numbered r.lost o)
      by_name None e = all_gone_on 0 (λ m le below join. nobody_named j lt e m below join)
      by_name (Some p) e = let n = named j lt p e in let b = n.before in (agrees.chain_shown (r.lost + p) (r.lost + j) (omega arith) (omega (arith, k_within)) n.joined, all_gone_on (suc (r.lost + p)) (λ m le below join. n.between m (omega arith) below))
