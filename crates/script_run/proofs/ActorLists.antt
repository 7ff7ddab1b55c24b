-- Lists of actors, of clients and of rows, one element more or less.
use Rattle.std.proofs.Common.{slice_get}
use Rattle.script_run.proofs.Common.{AllCarriedOut, CarriedOut, ClientFacts, Actor, List, None, Option, Script, Some, [], ap, append_assoc, arith, client_of, inl, inr, length, length-append, map, map-append, none-some, refl, reverse, reverse-append, slice_index_or, suc, sym, zero, ℕ, ⊎_elim, ◌++◌, ◌<◌, ◌∙◌, ◌∷◌, ◌≡◌, ◌⊎◌}

from : {X : Type 0} → Option X → X → X
from None d = d
from (Some x) d = x

-- an element of a longer list is one of the shorter, or the last
pub get_last : {X : Type 0} (xs : List X) (x : X) (i : ℕ) (y : X) → slice_get (xs ++ x ∷ []) i ≡ Some y → (slice_get xs i ≡ Some y) ⊎ ((i ≡ length xs) × (y ≡ x))
unfolding from
get_last [] x zero y e = inr (refl, ap (λ o. from o x) (sym e))
get_last [] x (suc i) y e = absurd (none-some y e)
get_last (z ∷ xs) x zero y e = inl e
get_last (z ∷ xs) x (suc i) y e = ⊎_elim (λ p. inl p) (λ p. inr (ap suc p.0, p.1)) (get_last xs x i y e)

-- the last one, which comes first in the other order
pub last_first : {X : Type 0} (xs : List X) (x : X) → reverse (xs ++ x ∷ []) ≡ x ∷ reverse xs
last_first {X} xs x = reverse-append xs (x ∷ [])

-- a client that becomes an actor
pub next_actor : (actors : List Actor) (h : Actor) (left old : List ClientFacts) (c : ClientFacts) → h.client ≡ c → old ≡ left ++ c ∷ [] → map client_of (actors ++ h ∷ []) ++ reverse left ≡ map client_of actors ++ reverse old
next_actor actors h left old c is at =
    ap (λ (z : List ClientFacts). z ++ reverse left) (map-append client_of actors (h ∷ []))
    ∙ (append_assoc (map client_of actors) (client_of h ∷ []) (reverse left)
    ∙ (ap (λ (z : ClientFacts). map client_of actors ++ z ∷ reverse left) is ∙ ap (λ (z : List ClientFacts). map client_of actors ++ z) (sym (last_first left c) ∙ ap reverse (sym at))))

-- one actor more whose lines were carried out
carried_at : (c : Script) (turns : ℕ) (xs ys : List Actor) (x y : Actor) → AllCarriedOut c turns xs ys → CarriedOut c turns x y → (k : ℕ) (d e : Actor) → k < length (xs ++ x ∷ []) → CarriedOut c turns (slice_index_or (xs ++ x ∷ []) k d) (slice_index_or (ys ++ y ∷ []) k e)
carried_at c turns [] [] x y all one zero d e lt = one
carried_at c turns [] [] x y all one (suc k) d e lt = absurd (omega (arith, lt))
carried_at c turns [] (v ∷ ys) x y all one k d e lt = absurd (let same = all.0 in omega arith)
carried_at c turns (u ∷ xs) [] x y all one k d e lt = absurd (let same = all.0 in omega arith)
carried_at c turns (u ∷ xs) (v ∷ ys) x y all one zero d e lt = all.1 0 d e (omega arith)
carried_at c turns (u ∷ xs) (v ∷ ys) x y all one (suc k) d e lt = carried_at c turns xs ys x y (let same = all.0 in omega arith, λ j a b l. all.1 (suc j) a b (omega (arith, l))) one k d e (omega (arith, lt))

pub carried_more : (c : Script) (turns : ℕ) (xs ys : List Actor) (x y : Actor) → AllCarriedOut c turns xs ys → CarriedOut c turns x y → AllCarriedOut c turns (xs ++ x ∷ []) (ys ++ y ∷ [])
carried_more c turns xs ys x y all one = (let m = length-append xs (x ∷ []) in let n = length-append ys (y ∷ []) in let same = all.0 in omega arith, carried_at c turns xs ys x y all one)
