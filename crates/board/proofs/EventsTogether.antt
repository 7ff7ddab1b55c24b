-- The events of two parts of a turn, one after the other.
use Rattle.history.proofs.Requests.{bool_cases, same_itself, same_true}
use Rattle.board.specs.PassEvents.{AreNew, GoesOn, answered_by, answered_one, is_among}
use Rattle.board.proofs.GoesLaws.{own_both}
use Rattle.board.proofs.Common.{Bool, Event, Facts, Goes, IsOf, Line, List, Pass, Req, [], ap, append-nil, append_assoc, cond, false, freed, own_of, refl, same, sym, true, true≢false, ⊎_elim, ◌++◌, ◌∙◌, ◌∷◌, ◌≡◌}

pub goes_on : (b : Facts) (p q : Pass) (es : List Event) → Goes b p es q → GoesOn b p es q
goes_on b p q es x = record { kept = x.kept; role_is = x.role_is; later = x.later; seen_is = x.seen_is; own = x.own }

pub goes_nowhere : (b : Facts) (p : Pass) → IsOf b p → GoesOn b p [] p
goes_nowhere b p o = record { kept = o; role_is = refl; later = []; seen_is = refl; own = refl }

pub goes_on_then : (b : Facts) (p m q : Pass) (es fs : List Event) → GoesOn b p es m → GoesOn b m fs q → GoesOn b p (fs ++ es) q
goes_on_then b p m q es fs x y = record {
  kept = y.kept;
  role_is = y.role_is ∙ x.role_is;
  later = y.later ++ x.later;
  seen_is = y.seen_is ∙ (ap (λ (j : List Line). y.later ++ j) x.seen_is ∙ sym (append_assoc y.later x.later p.view.seen));
  own = own_both p.view.role y.later x.later ∙ ((λ i. own_of (sym x.role_is i) y.later ++ own_of p.view.role x.later) ∙ (λ i. y.own i ++ x.own i));
}

pub answered_both : (fs es : List Event) → answered_by (fs ++ es) ≡ answered_by es ++ answered_by fs
answered_both [] es = sym (append-nil (answered_by es))
answered_both (f ∷ fs) es = ap (λ (z : List Req). z ++ answered_one f) (answered_both fs es) ∙ append_assoc (answered_by es) (answered_by fs) (answered_one f)

-- what two parts answered
pub answered_then : (x y z : List Req) (es fs : List Event) → y ≡ x ++ answered_by es → z ≡ y ++ answered_by fs → z ≡ x ++ answered_by (fs ++ es)
answered_then x y z es fs a b = b ∙ (ap (λ (w : List Req). w ++ answered_by fs) a ∙ (append_assoc x (answered_by es) (answered_by fs) ∙ ap (λ (w : List Req). x ++ w) (sym (answered_both fs es))))

spread : (s A R S c : Bool) → cond A true (cond R true c) ≡ cond S true c → cond A true (cond (cond s true R) true c) ≡ cond (cond s true S) true c
spread true true R S c e = refl
spread true false R S c e = refl
spread false A R S c e = e

pub among_both : (rs ss : List Req) (q : Req) (c : Bool) → cond (is_among ss q) true (cond (is_among rs q) true c) ≡ cond (is_among (rs ++ ss) q) true c
among_both [] ss q c = refl
among_both (r ∷ rs) ss q c = spread (same r q) (is_among ss q) (is_among rs q) (is_among (rs ++ ss) q) c (among_both rs ss q c)

-- requests that were moved in two parts are new and stand once, if those of each part are and do
new_among : (j : List Line) (rs : List Req) (q : Req) → AreNew j rs → is_among rs q ≡ true → freed j q ≡ false
new_among j [] q n is = absurd (true≢false (sym is))
new_among j (r ∷ rs) q n is = ⊎_elim
    (λ (w : same r q ≡ true). ap (freed j) (sym (same_true r q w)) ∙ n.0)
    (λ (w : same r q ≡ false). new_among j rs q n.2 (sym (ap (λ (c : Bool). cond c true (is_among rs q)) w) ∙ is))
    (bool_cases (same r q))

cond_true : (c b : Bool) → c ≡ true → cond c true b ≡ true
cond_true c b e = ap (λ (x : Bool). cond x true b) e

cond_false : (c b : Bool) → cond c true b ≡ false → b ≡ false
cond_false true b e = absurd (true≢false e)
cond_false false b e = e

pub among_append : (rs ss : List Req) (q : Req) → is_among (rs ++ ss) q ≡ cond (is_among rs q) true (is_among ss q)
among_append [] ss q = refl
among_append (r ∷ rs) ss q = ⊎_elim
    (λ (w : same r q ≡ true). cond_true (same r q) (is_among (rs ++ ss) q) w ∙ sym (cond_true (cond (same r q) true (is_among rs q)) (is_among ss q) (cond_true (same r q) (is_among rs q) w)))
    (λ (w : same r q ≡ false). ap (λ (c : Bool). cond c true (is_among (rs ++ ss) q)) w ∙ (among_append rs ss q ∙ ap (λ (c : Bool). cond (cond c true (is_among rs q)) true (is_among ss q)) (sym w)))
    (bool_cases (same r q))

in_rest : (c b : Bool) → b ≡ true → cond c true b ≡ true
in_rest true b e = refl
in_rest false b e = e

module _ (i j : List Line) where
  -- what a part moved isn't among what the next part moved
  once_more : (q : Req) (rs ss : List Req) → ((r : Req) → freed j r ≡ cond (is_among rs r) true (freed i r)) → AreNew j ss → is_among rs q ≡ true → is_among ss q ≡ false
  once_more q rs ss same' n is = ⊎_elim
      (λ (w : is_among ss q ≡ true). absurd (true≢false (sym (same' q ∙ cond_true (is_among rs q) (freed i q) is) ∙ new_among j ss q n w)))
      (λ (w : is_among ss q ≡ false). w) (bool_cases (is_among ss q))

  new_later : (rs ss : List Req) → ((r : Req) → freed j r ≡ cond (is_among rs r) true (freed i r)) → AreNew j ss → AreNew i ss
  new_later rs [] same' n = tt
  new_later rs (s ∷ ss) same' n = (cond_false (is_among rs s) (freed i s) (sym (same' s) ∙ n.0), n.1, new_later rs ss same' n.2)

  pub new_both : (xs rs ss : List Req) → ((r : Req) → freed j r ≡ cond (is_among xs r) true (freed i r)) → ((q : Req) → is_among rs q ≡ true → is_among xs q ≡ true) → AreNew i rs → AreNew j ss → AreNew i (rs ++ ss)
  new_both xs [] ss same' part n m = new_later xs ss same' m
  new_both xs (r ∷ rs) ss same' part n m = (
    n.0,
    among_append rs ss r ∙ (ap (λ (c : Bool). cond c true (is_among ss r)) n.1 ∙ once_more r xs ss same' m (part r (cond_true (same r r) (is_among rs r) (same_itself r)))),
    new_both xs rs ss same' (λ q is. part q (in_rest (same r q) (is_among rs q) is)) n.2 m,
  )
