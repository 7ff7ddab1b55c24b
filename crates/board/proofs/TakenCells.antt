-- Taking the words and slots of a table that was closed, one by one.
use Rattle.std.proofs.Math.ListN.{get_or-append}
use Rattle.atomic_table.proofs.Lists.{at_last, at_longer}
use Rattle.board.proofs.Common.{AreTaken, Bool, IsEmptied, List, Option, Some, Thing, [], ap, arith, claim_at, dite, false, get_elem?, get_or, get_or-append_right, get_or-set_other, get_or-set_same, length, length-append, set, slot_at, some, some-injective, subst, suc, sym, zero, ℕ, ℕ_discrete, ◌++◌, ◌+◌, ◌-◌, ◌<◌, ◌∙◌, ◌∷◌, ◌≡◌, ◌≢◌, ◌≤◌}

pub emptied_more : (old new after : List Bool) (a p : ℕ) → after ≡ set new p false → p < length new → a ≤ p → IsEmptied old new a p → IsEmptied old after a (p + 1)
emptied_more old new after a p is there le e = rw is record {
  inside = λ k l m. dite (ℕ_discrete k p) (λ s. subst (λ (z : ℕ). get_or (set new p false) z false ≡ false) (sym s) (get_or-set_same new p false false there)) (λ n. get_or-set_other new p k false false n ∙ e.inside k l (omega arith));
  below = λ k l. (let n : k ≢ p = omega arith in get_or-set_other new p k false false n ∙ e.below k l);
  above = λ k l. (let n : k ≢ p = omega arith in get_or-set_other new p k false false n ∙ e.above k (omega arith));
}

word_of_some : (l : List ℕ) (i a : ℕ) → get_elem? l i ≡ some a → get_or l i 0 ≡ a
word_of_some [] i a e = cc
word_of_some (x ∷ l) zero a e = cc
word_of_some (x ∷ l) (suc i) a e = word_of_some l i a e

pub taken_more : (words : List ℕ) (slots : List (Option Thing)) (n w : ℕ) (t : Option Thing) (claims : List ℕ) (things : List (Option Thing)) → AreTaken words slots n claims things
    → get_elem? words (claim_at n) ≡ some w → get_elem? slots (slot_at n) ≡ some t → AreTaken words slots (n + 1) (claims ++ w ∷ []) (things ++ t ∷ [])
taken_more words slots n w t claims things a here there = record {
  claims_long = (let l = a.claims_long in omega (arith, length-append claims (w ∷ [])));
  things_long = (let l = a.things_long in omega (arith, length-append things (t ∷ [])));
  claims_are = λ x l. dite (ℕ_discrete x n)
      (λ e. subst (λ (z : ℕ). get_or (claims ++ w ∷ []) z 0 ≡ get_or words (claim_at z) 0) (sym e) (get_or-append_right claims (w ∷ []) n n 0 a.claims_long (omega arith) ∙ (ap (λ (z : ℕ). get_or (w ∷ []) z 0) (let z : n - n ≡ 0 = omega arith in z) ∙ sym (word_of_some words (claim_at n) w here))))
      (λ ne. (let lt : x < length claims = (let c = a.claims_long in omega arith) in get_or-append claims (w ∷ []) 0 x lt ∙ a.claims_are x (omega arith)));
  things_are = λ x u l e. dite (ℕ_discrete x n)
      (λ s. (at_last things t x (a.things_long ∙ sym s)) ∙ (sym there ∙ (ap (λ (z : ℕ). get_elem? slots (slot_at z)) (sym s) ∙ e)))
      (λ ne. at_longer things (t ∷ []) x u (a.things_are x u (omega arith) e));
}

pub some_inside : {A : Type 0} (l : List A) (i : ℕ) (a : A) → get_elem? l i ≡ some a → i < length l
some_inside [] i a e = absurd (cc)
some_inside (x ∷ l) zero a e = omega arith
some_inside (x ∷ l) (suc i) a e = let h = some_inside l i a e in omega arith

pub some_get : {A : Type 0} (l : List A) (i : ℕ) (a d : A) → get_elem? l i ≡ some a → get_or l i d ≡ a
some_get [] i a d e = absurd (cc)
some_get (x ∷ l) zero a d e = some-injective x a e
some_get (x ∷ l) (suc i) a d e = some_get l i a d e

-- an element that was looked up, with any other element in its place where there is none
pub word_at : (l : List ℕ) (i a : ℕ) → a ≡ get_or l i a → i < length l → a ≡ get_or l i 0
word_at [] i a e lt = absurd (omega arith)
word_at (x ∷ l) zero a e lt = e
word_at (x ∷ l) (suc i) a e lt = word_at l i a e (omega arith)

-- a slot that was looked up
pub thing_at : {A : Type 0} (l : List A) (i : ℕ) (r d a : A) → r ≡ d → d ≡ get_or l i d → get_elem? l i ≡ some a → r ≡ a
thing_at {A} l i r d a e f g = e ∙ (f ∙ some_get l i a d g)

pub one_thing : (s t : Thing) → Some s ≡ Some t → s ≡ t
one_thing s t e = cc
