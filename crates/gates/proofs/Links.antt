-- The step of the loop that hands on to the later members of a chain what became of an earlier one.
use mathlib.Core.Bool.{beq}
use Rattle.gates.proofs.Common.{Behind, Bool, Cell, Linked, LinkedAt, List, Some, [], and_left, and_right, ap, arith, bool_cases, eq-eqb, eqb-true, false, length, map, behind_next, refl, set, slice_get, slice_get_within, slot_of, subst, suc, sym, true, true≢false, zero, ℕ, ⊎_elim, ◌&&◌, ◌+◌, ◌<◌, ◌==◌, ◌∙◌, ◌∷◌, ◌≡◌, ◌≢◌, ◌≤◌}
use Rattle.gates.proofs.Lists.{get_set_same, get_set_other, one_some}

abbrev pub with_behind : Cell → Behind → Cell
with_behind d b = record d { behind = b }

bool_same : (a b : Bool) → beq a b ≡ true → a ≡ b
bool_same true true e = refl
bool_same false false e = refl
bool_same true false e = absurd (true≢false (sym e))
bool_same false true e = absurd (true≢false (sym e))

-- what the comparison of two says
pub behind_same : (a b : Behind) → (beq a.severed b.severed && (beq a.held b.held && (beq a.hosted b.hosted && (a.head == b.head)))) ≡ true → a ≡ b
behind_same a b e =
    let x = bool_same _ _ (and_left _ _ e) in let e1 = and_right _ _ e in let y = bool_same _ _ (and_left _ _ e1) in let e2 = and_right _ _ e1 in
    let z = bool_same _ _ (and_left _ _ e2) in let w = eqb-true a.head b.head (and_right _ _ e2) in
    λ i. record { severed = x i; held = y i; hosted = z i; head = w i }

pub ne_of : (a b : ℕ) → (a == b) ≡ false → a ≢ b
ne_of a b w u = true≢false (sym (eq-eqb a b u) ∙ w)

module _ (n : ℕ) (cs : List Cell) (j : ℕ) (c d : Cell) (lt : suc j < length cs) (here : slice_get cs j ≡ Some c) (there : slice_get cs (suc j) ≡ Some d) where
  -- one more cell is told
  pub linked_more : ((i : ℕ) → i ≢ j → LinkedAt n cs i) → (i : ℕ) → i ≢ suc j → LinkedAt n (set cs (suc j) (with_behind d (behind_next (n + j) (slot_of c) c.behind))) i
  linked_more linked i ne a b x y =
      let v : Cell = with_behind d (behind_next (n + j) (slot_of c) c.behind) in
      let x' : slice_get cs i ≡ Some a = sym (get_set_other cs (suc j) i v ne) ∙ x in ⊎_elim
      (λ (w : (i == j) ≡ true). let e : i ≡ j = eqb-true i j w in
      let ca : c ≡ a = one_some c a (sym here ∙ sym (ap (slice_get cs) e) ∙ x') in
      let vb : v ≡ b = one_some v b (sym (get_set_same cs (suc j) v lt) ∙ sym (ap (λ z. slice_get (set cs (suc j) v) (suc z)) e) ∙ y) in
      sym (ap (λ (z : Cell). z.behind) vb) ∙ ap (λ (z : Cell). behind_next (n + j) (slot_of z) z.behind) ca ∙ ap (λ z. behind_next (n + z) (slot_of a) a.behind) (sym e))
      (λ (w : (i == j) ≡ false). let u : i ≢ j = ne_of i j w in let o : suc i ≢ suc j = λ q. u (omega arith) in
      linked i u a b x' (sym (get_set_other cs (suc j) (suc i) v o) ∙ y))
      (bool_cases (i == j))

  -- there is nothing more to hand on
  pub linked_all : d.behind ≡ behind_next (n + j) (slot_of c) c.behind → ((i : ℕ) → i ≢ j → LinkedAt n cs i) → Linked n cs
  linked_all same linked i = ⊎_elim
      (λ (w : (i == j) ≡ true). let e : j ≡ i = sym (eqb-true i j w) in subst (LinkedAt n cs) e (λ (a b : Cell) (x : slice_get cs j ≡ Some a) (y : slice_get cs (suc j) ≡ Some b).
      let ca : c ≡ a = one_some c a (sym here ∙ x) in let db : d ≡ b = one_some d b (sym there ∙ y) in
      sym (ap (λ (z : Cell). z.behind) db) ∙ same ∙ ap (λ (z : Cell). behind_next (n + j) (slot_of z) z.behind) ca))
      (λ (w : (i == j) ≡ false). linked i (ne_of i j w)) (bool_cases (i == j))

-- the last cell hands nothing on
pub linked_end : (n : ℕ) (cs : List Cell) (j : ℕ) → length cs ≤ suc j → ((i : ℕ) → i ≢ j → LinkedAt n cs i) → Linked n cs
linked_end n cs j le linked i = ⊎_elim
    (λ (w : (i == j) ≡ true). (λ (a b : Cell) (x : slice_get cs i ≡ Some a) (y : slice_get cs (suc i) ≡ Some b). absurd (let e : i ≡ j = eqb-true i j w in let lt = slice_get_within cs (suc i) b y in omega arith)))
    (λ (w : (i == j) ≡ false). linked i (ne_of i j w)) (bool_cases (i == j))

-- an entry stays as it is where another word of its cell is written
pub slots_kept : (cs : List Cell) (j : ℕ) (d : Cell) (b : Behind) → slice_get cs j ≡ Some d → map slot_of (set cs j (with_behind d b)) ≡ map slot_of cs
slots_kept [] j d b is = refl
slots_kept (x ∷ cs) zero d b is = ap (λ (z : Cell). slot_of z ∷ map slot_of cs) (sym (one_some x d is))
slots_kept (x ∷ cs) (suc j) d b is = ap (λ z. slot_of x ∷ z) (slots_kept cs j d b is)
