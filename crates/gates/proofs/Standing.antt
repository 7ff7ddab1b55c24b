-- What the cells of a row say of the list that the row stands for.
use Rattle.gates.proofs.Common.{Behind, Bool, Cell, IsSound, Kept, List, None, Option, Slot, Some, Stands, and_left, and_right, ap, arith, behind, bool_cases, cases_lt, cond, eq-eqb, eqb-true, false, held_at, held_of, inl, inr, is_draining, is_pending, is_target_timer, joins_of, length, length-map, map, next_in, behind_next, none-some, passes, place_by, refl, slice_get, slice_get_within, slot_of, subst, suc, sym, test_at, true, true≢false, zero, ℕ, ⊎_elim, ◌&&◌, ◌+◌, ◌-◌, ◌<◌, ◌==◌, ◌||◌, ◌∙◌, ◌≡◌, ◌≢◌, ◌≤◌, ◌⊎◌}
use Rattle.gates.proofs.Lists.{get_there, get_drop, slot_there, one_some}
use Rattle.gates.proofs.Marks.{J, P, W, Join, step_held}

pub head_joins : (k : ℕ) (o : Option Slot) (b : Behind) (j : Bool) (s : Slot) → o ≡ Some s → joins_of s ≡ j → let n : Behind = next_in k o b in n.head ≡ cond j b.head (k + 1)
head_joins k None b j s e u = absurd (none_some s e) where
  none_some : (x : Slot) → None ≡ Some x → ⊥
  none_some x y = cc
head_joins k (Some x) b j s e u = ap (λ z. cond z b.head (k + 1)) (ap joins_of (one_some x s e) ∙ u)

module _ (xs : List Slot) where
  abbrev pub head : ℕ → ℕ
  head k = (behind xs k).head

  -- the first member of a chain: from it on each joins the next, and the one before it doesn't join it
  pub record IsHead (k : ℕ) : Type 0 where
    pub within : head k ≤ k
    pub joined : Join xs (head k) k
    pub free : W xs (head k) ≡ false
    pub alone : (m : ℕ) → m < head k → Join xs m k → ⊥

  head_step : (k : ℕ) → k < length xs → IsHead k → (j : Bool) → J xs k ≡ j → head (suc k) ≡ cond j (head k) (k + 1) → IsHead (suc k)
  head_step k lt ih true jk e = record {
    within = let a = ih.within in omega arith;
    joined = subst (λ n. Join xs n (suc k)) (sym e) (λ m a b. ⊎_elim (λ (w : m < k). ih.joined m a w) (λ (w : k ≤ m). (let u : k ≡ m = omega arith in subst (λ z. J xs z ≡ true) u jk)) (cases_lt m k));
    free = ap (W xs) e ∙ ih.free;
    alone = λ m a l. ih.alone m (omega arith) (λ n x y. l n x (omega arith));
  }
  head_step k lt ih false jk e = record {
    within = omega arith;
    joined = λ m a b. absurd (omega arith);
    free = ap (W xs) e ∙ ap (W xs) (let u : k + 1 ≡ suc k = omega arith in u) ∙ step_held xs k lt ∙ ap (λ z. z && (P xs k || W xs k)) jk;
    alone = λ m a l. true≢false (sym (l k (omega arith) (omega arith)) ∙ jk);
  }

  pub head_is : (k : ℕ) → k ≤ length xs → IsHead k
  head_is zero le = record { within = omega arith; joined = λ m a b. absurd (omega arith); free = refl; alone = λ m a l. absurd (omega arith) }
  head_is (suc k) le = let t = get_there xs k (omega arith) in head_step k (omega arith) (head_is k (omega arith)) (joins_of t.0) (ap (test_at joins_of) t.1) (head_joins k (slice_get xs k) (behind xs k) (joins_of t.0) t.0 t.1 refl)

-- the place that decides for a request is its own, or, for a LINK_TIMEOUT, the one before it
module _ (j : ℕ) (c : Cell) where
  abbrev pub is_timer : Bool
  is_timer = is_target_timer c.behind.hosted (slot_of c)

  pub place_parts : (g : ℕ) → place_by j c ≡ Some g → ((is_timer ≡ false) × (g ≡ j)) ⊎ ((is_timer ≡ true) × (suc g ≡ j))
  place_parts g = by_timer is_timer refl where
    by_timer : (t : Bool) → is_timer ≡ t → cond t (cond (j == 0) None (Some (j - 1))) (Some j) ≡ Some g → ((is_timer ≡ false) × (g ≡ j)) ⊎ ((is_timer ≡ true) × (suc g ≡ j))
    by_timer false e u = inl (e, sym (one_some j g u))
    by_timer true e u = ⊎_elim
        (λ (w : (j == 0) ≡ true). absurd (none-some g (sym (ap (λ b. cond b None (Some (j - 1))) w) ∙ u)))
        (λ (w : (j == 0) ≡ false). let v : j - 1 ≡ g = one_some (j - 1) g (sym (ap (λ b. cond b None (Some (j - 1))) w) ∙ u) in
        let pos : j ≢ 0 = λ z. true≢false (sym (eq-eqb j 0 z) ∙ w) in inr (e, omega arith))
        (bool_cases (j == 0))

  -- the target has lost its cell
  pub no_place : place_by j c ≡ None → (is_timer ≡ true) × (j ≡ 0)
  no_place = by_timer is_timer refl where
    by_timer : (t : Bool) → is_timer ≡ t → cond t (cond (j == 0) None (Some (j - 1))) (Some j) ≡ None → (is_timer ≡ true) × (j ≡ 0)
    by_timer false e u = absurd (none-some j (sym u))
    by_timer true e u = ⊎_elim
        (λ (w : (j == 0) ≡ true). (e, eqb-true j 0 w))
        (λ (w : (j == 0) ≡ false). absurd (none-some (j - 1) (sym (sym (ap (λ b. cond b None (Some (j - 1))) w) ∙ u))))
        (bool_cases (j == 0))

module _ (xs : List Slot) (r : Kept) (sound : IsSound r) (stands : Stands xs r) where
  pub slot_exact : (j : ℕ) (c : Cell) → slice_get r.cells j ≡ Some c → slice_get xs (r.lost + j) ≡ Some (slot_of c)
  slot_exact j c e = sym (get_drop r.lost xs j) ∙ ap (λ z. slice_get z j) stands.slots ∙ slot_there slot_of r.cells j c e

  pub behind_exact : (j : ℕ) (c : Cell) → slice_get r.cells j ≡ Some c → c.behind ≡ behind xs (r.lost + j)
  behind_exact zero c e = stands.front c e ∙ ap (behind xs) (let u : r.lost ≡ r.lost + 0 = omega arith in u)
  behind_exact (suc j) c e =
      let lt = slice_get_within r.cells (suc j) c e in let b = get_there r.cells j (omega arith) in
      sound.linked j b.0 c b.1 e ∙ ap (behind_next (r.lost + j) (slot_of b.0)) (behind_exact j b.0 b.1) ∙ sym (ap (λ z. next_in (r.lost + j) z (behind xs (r.lost + j))) (slot_exact j b.0 b.1))
      ∙ ap (behind xs) (let u : suc (r.lost + j) ≡ r.lost + suc j = omega arith in u)

  pub test_exact : (p : Slot → Bool) (j : ℕ) → j < length r.cells → passes p (map slot_of r.cells) j ≡ passes p xs (r.lost + j)
  test_exact p j lt = let c = get_there r.cells j lt in ap (test_at p) (slot_there slot_of r.cells j c.0 c.1 ∙ sym (slot_exact j c.0 c.1))

  pub held_exact : (j : ℕ) → j < length r.cells → held_at r.cells j ≡ W xs (r.lost + j)
  held_exact j lt = let c = get_there r.cells j lt in ap held_of c.1 ∙ ap (λ (b : Behind). b.held) (behind_exact j c.0 c.1)

  -- all before the oldest have replied
  pub older : (m : ℕ) → m < r.lost + r.oldest → P xs m ≡ false
  older m lt = let n = length-map r.cells slot_of in let w = sound.oldest.within in ⊎_elim (λ (a : m < r.lost). stands.gone m a)
      (λ (a : r.lost ≤ m). let e : r.lost + (m - r.lost) ≡ m = omega arith in subst (λ z. P xs z ≡ false) e (sym (test_exact is_pending (m - r.lost) (omega arith)) ∙ sound.oldest.before (m - r.lost) (omega arith)))
      (cases_lt m r.lost)

  pub oldest_pending : r.oldest < length r.cells → P xs (r.lost + r.oldest) ≡ true
  oldest_pending lt = let n = length-map r.cells slot_of in sym (test_exact is_pending r.oldest lt) ∙ sound.oldest.here (omega arith)

  draining_pending : (m : ℕ) → P xs m ≡ false → passes is_draining xs m ≡ false
  draining_pending m e = by_slot (slice_get xs m) e where
    by_slot : (o : Option Slot) → test_at is_pending o ≡ false → test_at is_draining o ≡ false
    by_slot None u = refl
    by_slot (Some s) u = ap (λ z. z && s.traits.drains) u

  -- no drain before the first unanswered one is unanswered
  pub drained : (m : ℕ) → m < r.lost + r.drain → passes is_draining xs m ≡ false
  drained m lt = let n = length-map r.cells slot_of in let w = sound.drain.within in ⊎_elim (λ (a : m < r.lost). draining_pending m (stands.gone m a))
      (λ (a : r.lost ≤ m). let e : r.lost + (m - r.lost) ≡ m = omega arith in subst (λ z. passes is_draining xs z ≡ false) e (sym (test_exact is_draining (m - r.lost) (omega arith)) ∙ sound.drain.before (m - r.lost) (omega arith)))
      (cases_lt m r.lost)

  pub drain_pending : r.drain < length r.cells → passes is_draining xs (r.lost + r.drain) ≡ true
  drain_pending lt = let n = length-map r.cells slot_of in sym (test_exact is_draining r.drain lt) ∙ sound.drain.here (omega arith)

  pub listed : (g : ℕ) → g < length r.cells → r.lost + g < length xs
  listed g lt = let n : r.lost + length r.cells ≡ length xs = stands.count in omega arith

  -- an unanswered drain
  pub drain_parts : (m : ℕ) → passes is_draining xs m ≡ true → (P xs m ≡ true) × ((s : Slot) × (slice_get xs m ≡ Some s) × (s.traits.drains ≡ true))
  drain_parts m e = by_slot (slice_get xs m) refl e where
    by_slot : (o : Option Slot) → slice_get xs m ≡ o → test_at is_draining o ≡ true → (P xs m ≡ true) × ((s : Slot) × (slice_get xs m ≡ Some s) × (s.traits.drains ≡ true))
    by_slot None u v = absurd (true≢false (sym v))
    by_slot (Some s) u v = (ap (test_at is_pending) u ∙ and_left (is_pending s) s.traits.drains v, (s, u, and_right (is_pending s) s.traits.drains v))
