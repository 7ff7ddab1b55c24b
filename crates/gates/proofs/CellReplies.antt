-- What a reply makes of the cells, and of the list that they stand for.
use Rattle.gates.proofs.Common.{Behind, Bool, Cell, Linked, LinkedAt, List, Slot, Some, Stands, [], answered, ap, arith, behind, bool_cases, cond, drop, drop-set-add, eqb-true, false, inl, inr, is_pending, is_severing, joins_of, length, length-map, length-set, map, map-set, next_in, behind_next, none-some, not, passes, refl, set, slice_get, slot_of, subst, suc, sym, test_at, true, waiting_in, with_reply, zero, ℕ, ⊎_elim, ◌&&◌, ◌++◌, ◌+◌, ◌<◌, ◌==◌, ◌||◌, ◌∙◌, ◌∷◌, ◌≡◌, ◌≢◌, ◌≤◌}
use Rattle.gates.proofs.Lists.{get_last, get_set_same, get_set_other, get_drop, get_there, one_some, slot_there}
use Rattle.gates.proofs.Links.{ne_of}

abbrev pub cell_replied : Cell → Bool → Cell
cell_replied c f = record c { reply = Some f }

abbrev pub slot_replied : Slot → Bool → Slot
slot_replied s f = record s { reply = Some f }

-- a pending slot fewer
waiting_set : (xs : List Slot) (j : ℕ) (s v : Slot) → slice_get xs j ≡ Some s → is_pending s ≡ true → is_pending v ≡ false → waiting_in (set xs j v) < waiting_in xs
waiting_set [] j s v e p q = absurd (none-some s e)
waiting_set (x ∷ xs) zero s v e p q = let u : is_pending x ≡ true = ap is_pending (one_some x s e) ∙ p in
    let a : (let n : ℕ = cond (is_pending x) 1 0 in n) ≡ 1 = ap (λ z. let n : ℕ = cond z 1 0 in n) u in let b : (let n : ℕ = cond (is_pending v) 1 0 in n) ≡ 0 = ap (λ z. let n : ℕ = cond z 1 0 in n) q in omega (arith, a, b)
waiting_set (x ∷ xs) (suc j) s v e p q = let a = waiting_set xs j s v e p q in omega (arith, a)

set_last : (xs : List Slot) (s v : Slot) → set (xs ++ s ∷ []) (length xs) v ≡ xs ++ v ∷ []
set_last [] s v = refl
set_last (x ∷ xs) s v = ap (λ z. x ∷ z) (set_last xs s v)

-- the last entry replies
pub with_last_reply : (xs : List Slot) (s : Slot) (f : Bool) → with_reply (xs ++ s ∷ []) (length xs) f ≡ xs ++ slot_replied s f ∷ []
with_last_reply xs s f = ap (λ z. answered z f (xs ++ s ∷ []) (length xs)) (get_last xs s) ∙ set_last xs s (slot_replied s f)

-- what stands before an entry is told by the entries before it
pub behind_same_before : (xs ys : List Slot) (n : ℕ) → ((m : ℕ) → m < n → slice_get xs m ≡ slice_get ys m) → behind xs n ≡ behind ys n
behind_same_before xs ys zero same = refl
behind_same_before xs ys (suc n) same =
    ap (λ z. next_in n z (behind xs n)) (same n (omega arith)) ∙ ap (next_in n (slice_get ys n)) (behind_same_before xs ys n (λ m lt. same m (omega arith)))

-- what an entry that joins nobody makes of the next
next_alone : (k : ℕ) (s : Slot) (b : Behind) → joins_of s ≡ false → behind_next k s b ≡ record { severed = false; held = false; hosted = false; head = k + 1 }
next_alone k s b e = ap (λ (j : Bool). Behind-by j) e where
  Behind-by : Bool → Behind
  Behind-by j = record { severed = j && (is_severing b.hosted s || b.severed); held = j && (is_pending s || b.held); hosted = j && not s.traits.link_timeout; head = cond j b.head (k + 1) }

module _ (n : ℕ) (cs cs1 cs2 : List Cell) (j : ℕ) (fails : Bool) (lt : j < length cs)
    (written : (c : Cell) → slice_get cs j ≡ Some c → cs1 ≡ set cs j (cell_replied c fails)) (told : map slot_of cs2 ≡ map slot_of cs1) where
  here : (c : Cell) × (slice_get cs j ≡ Some c)
  here = get_there cs j lt

  now : cs1 ≡ set cs j (cell_replied here.0 fails)
  now = written here.0 here.1

  pub length_written : length cs1 ≡ length cs
  length_written = ap length now ∙ length-set cs j (cell_replied here.0 fails)

  pub length_told : length cs2 ≡ length cs
  length_told = sym (length-map cs2 slot_of) ∙ ap length told ∙ length-map cs1 slot_of ∙ length_written

  -- the cells but the one that replied say what they said
  pub linked_but : Linked n cs → (i : ℕ) → i ≢ j → LinkedAt n cs1 i
  linked_but linked i ne a b x y =
      let v : Cell = cell_replied here.0 fails in
      let x' : slice_get cs i ≡ Some a = sym (get_set_other cs j i v ne) ∙ sym (ap (λ z. slice_get z i) now) ∙ x in
      let y' : slice_get (set cs j v) (suc i) ≡ Some b = sym (ap (λ z. slice_get z (suc i)) now) ∙ y in ⊎_elim
      (λ (w : (suc i == j) ≡ true). let e : suc i ≡ j = eqb-true (suc i) j w in
      let vb : v ≡ b = one_some v b (sym (get_set_same cs j v lt) ∙ ap (slice_get (set cs j v)) (sym e) ∙ y') in
      sym (ap (λ (z : Cell). z.behind) vb) ∙ linked i a here.0 x' (ap (slice_get cs) e ∙ here.1))
      (λ (w : (suc i == j) ≡ false). linked i a b x' (sym (get_set_other cs j (suc i) v (ne_of (suc i) j w)) ∙ y'))
      (bool_cases (suc i == j))

  -- one that joins nobody says of the next what it said
  pub linked_alone : Linked n cs → (c : Cell) → slice_get cs1 j ≡ Some c → joins_of (slot_of c) ≡ false → LinkedAt n cs1 j
  linked_alone linked c at alone a b x y =
      let v : Cell = cell_replied here.0 fails in
      let same : v ≡ a = one_some v a (sym (get_set_same cs j v lt) ∙ sym (ap (λ z. slice_get z j) now) ∙ x) in
      let lone_a : joins_of (slot_of a) ≡ false = ap (λ (z : Cell). joins_of (slot_of z)) (one_some a c (sym x ∙ at)) ∙ alone in
      let lone_here : joins_of (slot_of here.0) ≡ false = ap (λ (z : Cell). joins_of (slot_of z)) same ∙ lone_a in
      let y' : slice_get cs (suc j) ≡ Some b = sym (get_set_other cs j (suc j) v (let ne : suc j ≢ j = omega arith in ne)) ∙ sym (ap (λ z. slice_get z (suc j)) now) ∙ y in
      linked j here.0 b here.1 y' ∙ next_alone (n + j) (slot_of here.0) here.0.behind lone_here ∙ sym (next_alone (n + j) (slot_of a) a.behind lone_a)

  slots_written : map slot_of cs2 ≡ set (map slot_of cs) j (slot_replied (slot_of here.0) fails)
  slots_written = told ∙ ap (map slot_of) now ∙ map-set slot_of cs j (cell_replied here.0 fails)

  -- what no earlier slot passes, none passes now
  pub before_written : (p : Slot → Bool) (m : ℕ) → ((s : Slot) → p (slot_replied s fails) ≡ false)
      → ((i : ℕ) → i < m → passes p (map slot_of cs) i ≡ false) → (i : ℕ) → i < m → passes p (map slot_of cs2) i ≡ false
  before_written p m none old i le =
      let ss : List Slot = map slot_of cs in let s : Slot = slot_replied (slot_of here.0) fails in
      ap (λ z. passes p z i) slots_written ∙ ⊎_elim
      (λ (w : (i == j) ≡ true). ap (test_at p) (ap (slice_get (set ss j s)) (eqb-true i j w) ∙ get_set_same ss j s (let e = length-map cs slot_of in omega arith)) ∙ none (slot_of here.0))
      (λ (w : (i == j) ≡ false). ap (test_at p) (get_set_other ss j i s (ne_of i j w)) ∙ old i le)
      (bool_cases (i == j))

  module _ (xs : List Slot) (k size oldest drain oldest' drain' plain : ℕ) (place : k ≡ n + j) (kept : (i : ℕ) → i ≤ j → slice_get cs2 i ≡ slice_get cs1 i)
      (stands : Stands xs (record { size = size; lost = n; cells = cs; oldest = oldest; drain = drain; plain = plain })) where
    at : slice_get xs k ≡ Some (slot_of here.0)
    at = ap (slice_get xs) place ∙ sym (get_drop n xs j) ∙ ap (λ z. slice_get z j) stands.slots ∙ slot_there (slot_of) cs j here.0 here.1

    list : with_reply xs k fails ≡ set xs k (slot_replied (slot_of here.0) fails)
    list = ap (λ z. answered z fails xs k) at

    other : (m : ℕ) → m ≢ k → slice_get (with_reply xs k fails) m ≡ slice_get xs m
    other m ne = ap (λ z. slice_get z m) list ∙ get_set_other xs k m (slot_replied (slot_of here.0) fails) ne

    first_kept : (c : Cell) → slice_get cs2 0 ≡ Some c → c.behind ≡ behind xs n
    first_kept c e =
        let v : Cell = cell_replied here.0 fails in
        let e1 : slice_get (set cs j v) 0 ≡ Some c = sym (ap (λ z. slice_get z 0) now) ∙ sym (kept 0 (omega arith)) ∙ e in ⊎_elim
        (λ (w : (0 == j) ≡ true). let u : j ≡ 0 = sym (eqb-true 0 j w) in
        let vc : v ≡ c = one_some v c (sym (get_set_same cs j v lt) ∙ ap (slice_get (set cs j v)) u ∙ e1) in
        sym (ap (λ (z : Cell). z.behind) vc) ∙ stands.front here.0 (ap (slice_get cs) (sym u) ∙ here.1))
        (λ (w : (0 == j) ≡ false). stands.front c (sym (get_set_other cs j 0 v (ne_of 0 j w)) ∙ e1))
        (bool_cases (0 == j))

    -- one request fewer is pending
    pub fewer : test_at is_pending (slice_get xs k) ≡ true → waiting_in (map slot_of cs2) < waiting_in (map slot_of cs)
    fewer is = subst (λ z. waiting_in z < waiting_in (map slot_of cs)) (sym slots_written)
        (waiting_set (map slot_of cs) j (slot_of here.0) (slot_replied (slot_of here.0) fails) (slot_there slot_of cs j here.0 here.1) (sym (ap (test_at is_pending) at) ∙ is) refl)

    same_behind : behind (with_reply xs k fails) n ≡ behind xs n
    same_behind = behind_same_before (with_reply xs k fails) xs n (λ m lt'. other m (let ne : m ≢ k = omega arith in ne))

    -- the row stands for the list with the reply
    pub stands_replied : Stands (with_reply xs k fails) (record { size = size; lost = n; cells = cs2; oldest = oldest'; drain = drain'; plain = plain })
    stands_replied = record {
      count = let a = length_told in let b = ap length list ∙ length-set xs k (slot_replied (slot_of here.0) fails) in let c : n + length cs ≡ length xs = stands.count in omega (arith, a, b, c);
      slots = ap (drop n) list ∙ ap (λ z. drop n (set xs z (slot_replied (slot_of here.0) fails))) place ∙ drop-set-add n xs j (slot_replied (slot_of here.0) fails) ∙ ap (λ z. set z j (slot_replied (slot_of here.0) fails)) stands.slots ∙ sym slots_written;
      front = λ c e. first_kept c e ∙ sym same_behind;
      gone = λ m lt'. ap (test_at is_pending) (other m (let ne : m ≢ k = omega arith in ne)) ∙ stands.gone m lt';
      full = ⊎_elim (λ z. inl (same_behind ∙ z)) (λ z. inr (length_told ∙ z)) stands.full;
    }
