-- Reads of lists that were written, cut or made longer.
use Rattle.std.specs.Option.{option_map}
use Rattle.gates.proofs.Common.{Bool, Cell, List, Slot, Some, [], ap, arith, drop, length, map, passes, refl, set, slice_get, slice_get-map, slot_of, suc, test_at, zero, ℕ, ◌++◌, ◌+◌, ◌<◌, ◌∙◌, ◌∷◌, ◌≡◌, ◌≢◌}

module _ {A : Type 0} where
  pub get_set_same : (xs : List A) (i : ℕ) (y : A) → i < length xs → slice_get (set xs i y) i ≡ Some y
  get_set_same [] i y lt = absurd (omega arith)
  get_set_same (x ∷ xs) zero y lt = refl
  get_set_same (x ∷ xs) (suc i) y lt = get_set_same xs i y (omega arith)

  pub get_set_other : (xs : List A) (i j : ℕ) (y : A) → j ≢ i → slice_get (set xs i y) j ≡ slice_get xs j
  get_set_other [] i j y ne = refl
  get_set_other (x ∷ xs) zero zero y ne = absurd (ne refl)
  get_set_other (x ∷ xs) zero (suc j) y ne = refl
  get_set_other (x ∷ xs) (suc i) zero y ne = refl
  get_set_other (x ∷ xs) (suc i) (suc j) y ne = get_set_other xs i j y (λ e. ne (ap suc e))

  pub get_drop : (n : ℕ) (xs : List A) (j : ℕ) → slice_get (drop n xs) j ≡ slice_get xs (n + j)
  get_drop zero xs j = ap (slice_get xs) (let e : j ≡ 0 + j = omega arith in e)
  get_drop (suc n) [] j = refl
  get_drop (suc n) (x ∷ xs) j = get_drop n xs j ∙ ap (slice_get (x ∷ xs)) (let e : suc (n + j) ≡ suc n + j = omega arith in e)

  pub get_there : (xs : List A) (i : ℕ) → i < length xs → (x : A) × (slice_get xs i ≡ Some x)
  get_there [] i lt = absurd (omega arith)
  get_there (x ∷ xs) zero lt = (x, refl)
  get_there (x ∷ xs) (suc i) lt = get_there xs i (omega arith)

  pub get_before : (xs : List A) (x : A) (p : ℕ) → p < length xs → slice_get (xs ++ x ∷ []) p ≡ slice_get xs p
  get_before [] x p lt = absurd (omega arith)
  get_before (y ∷ xs) x zero lt = refl
  get_before (y ∷ xs) x (suc p) lt = get_before xs x p (omega arith)

  pub get_last : (xs : List A) (x : A) → slice_get (xs ++ x ∷ []) (length xs) ≡ Some x
  get_last [] x = refl
  get_last (y ∷ xs) x = get_last xs x

  pub one_some : (x y : A) → Some x ≡ Some y → x ≡ y
  one_some x y e = cc

-- a test of the slot in a cell
pub passes_at : (p : Slot → Bool) (cs : List Cell) (j : ℕ) (c : Cell) → slice_get cs j ≡ Some c → passes p (map slot_of cs) j ≡ p (slot_of c)
passes_at p cs j c e = ap (test_at p) (slice_get-map slot_of cs j ∙ ap (option_map slot_of) e)

-- the slot of a cell that is there
pub slot_there : {A B : Type 0} (f : A → B) (cs : List A) (j : ℕ) (c : A) → slice_get cs j ≡ Some c → slice_get (map f cs) j ≡ Some (f c)
slot_there f cs j c e = slice_get-map f cs j ∙ ap (option_map f) e
