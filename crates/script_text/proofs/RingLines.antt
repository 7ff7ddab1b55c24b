-- The lines of one ring among those of all.
use Rattle.script_text.proofs.Common.{Act, List, Option, Some, Vec, [], ap, arith, cases_eq, deed, deeds, deeds_and, deeds_at, eq-eqb, items_or_none, length, map_push, ne_eqb, refl, set, slice_get, suc, zero, ℕ, ⊎_elim, ◌++◌, ◌<◌, ◌==◌, ◌∙◌, ◌∷◌, ◌≡◌}

pub get_set_same : {A : Type 0} (xs : List A) (i : ℕ) (a : A) → i < length xs → slice_get (set xs i a) i ≡ Some a
get_set_same [] i a lt = absurd (omega arith)
get_set_same (x ∷ xs) zero a lt = refl
get_set_same (x ∷ xs) (suc i) a lt = get_set_same xs i a (omega arith)

pub get_set_other : {A : Type 0} (xs : List A) (i j : ℕ) (a : A) → (j ≡ i → ⊥) → slice_get (set xs i a) j ≡ slice_get xs j
get_set_other (x ∷ xs) zero zero a ne = absurd (ne refl)
get_set_other (x ∷ xs) (suc i) (suc j) a ne = get_set_other xs i j a (λ e. ne (ap suc e))
get_set_other _ _ _ a ne = refl

-- one more line of a ring
pub deeds_set : (vs : List (Vec Act)) (i : ℕ) (v w : Vec Act) (act : Act) (ring : ℕ) → i < length vs → slice_get vs i ≡ Some v → w.items ≡ v.items ++ act ∷ []
    → deeds_at (set vs i w) ring ≡ deeds_and (ring == i) (deeds_at vs ring) (deed act)
deeds_set vs i v w act ring lt found is = ⊎_elim
    (λ (e : ring ≡ i). (
    let a : deeds_at (set vs i w) ring ≡ deeds w.items = ap (λ (j : ℕ). deeds_at (set vs i w) j) e ∙ ap (λ (o : Option (Vec Act)). deeds (items_or_none o)) (get_set_same vs i w lt) in
    let b : deeds w.items ≡ deeds v.items ++ deed act ∷ [] = ap deeds is ∙ map_push deed v.items act in
    let d : deeds_at vs ring ≡ deeds v.items = ap (λ (j : ℕ). deeds_at vs j) e ∙ ap (λ (o : Option (Vec Act)). deeds (items_or_none o)) found in
    rw (eq-eqb ring i e, d) (a ∙ b)))
    (λ (ne : ring ≡ i → ⊥). rw (ne_eqb ring i ne) (ap (λ (o : Option (Vec Act)). deeds (items_or_none o)) (get_set_other vs i ring w ne)))
    (cases_eq ring i)
