-- Who is among those that lie with a pipe.
use Rattle.std.specs.List.{list_any}
use Rattle.work.proofs.Common.{Bool, LiesIn, List, Req, [], ap, bool_cases, false, inl, inr, refl, same, same_itself, same_true, subst, sym, true, true≢false, ⊎_elim, ◌++◌, ◌||◌, ◌∙◌, ◌∷◌, ◌≡◌}

-- who was laid down last
pub lies_last : (rs : List Req) (r : Req) → LiesIn (rs ++ (r ∷ [])) r
lies_last [] r = inl refl
lies_last (q ∷ rs) r = inr (lies_last rs r)

-- the scan finds it exactly where it lies there
abbrev pub is_there : List Req → Req → Bool
is_there rs r = list_any (λ (q : Req). same q r) rs

or_true : (b : Bool) → (b || true) ≡ true
or_true true = refl
or_true false = refl

pub lies_found : (rs : List Req) (r : Req) → is_there rs r ≡ true → LiesIn rs r
lies_found [] r e = absurd (true≢false (sym e))
lies_found (q ∷ rs) r e = ⊎_elim (λ (t : same q r ≡ true). inl (same_true q r t))
    (λ (f : same q r ≡ false). inr (lies_found rs r (subst (λ (b : Bool). (b || is_there rs r) ≡ true) f e))) (bool_cases (same q r))

pub found_there : (rs : List Req) (r : Req) → LiesIn rs r → is_there rs r ≡ true
found_there [] r k = absurd k
found_there (q ∷ rs) r (inl e) = ap (λ (b : Bool). b || is_there rs r) (ap (λ (z : Req). same z r) e ∙ same_itself r)
found_there (q ∷ rs) r (inr k) = ap (λ (b : Bool). same q r || b) (found_there rs r k) ∙ or_true (same q r)
