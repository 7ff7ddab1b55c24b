-- Where the steps of a count are made: at the timer's own claim word, or at those of later requests.
use Rattle.board.proofs.Common.{Bool, IsCell, IsStep, List, Req, Spends, Step, StepsTo, View, [], ap, append_assoc, arith, bool_cases, cells_in, claim_at, cond, eq-eqb, eqb-true, false, ltb-false, ltb-true, mul-le-mul_right, nat_lt, one_cell, place_of, request_at, ring_of, steps_both, steps_elsewhere, subst, suc, suc-mul, sym, true, ℕ, ⊎_elim, ◌*◌, ◌++◌, ◌+◌, ◌<◌, ◌==◌, ◌∙◌, ◌∷◌, ◌≡◌, ◌≤◌}

else_both : (word : ℕ) (k l : List Step) → steps_elsewhere word (k ++ l) ≡ steps_elsewhere word k + steps_elsewhere word l
else_both word [] l = omega arith
else_both word (s ∷ k) l = (let i = else_both word k l in omega arith)

-- two requests of a ring that are fewer apart than it has cells have two cells
apart : (n g h p q r : ℕ) → g * n + p ≡ q → h * n + p ≡ r → q < r → r < q + n → ⊥
apart n g h p q r a b lt le = ⊎_elim
    (λ (w : nat_lt g h ≡ true). let l : g < h = ltb-true g h w in let m : suc g * n ≤ h * n = mul-le-mul_right n l in let u : suc g * n ≡ g * n + n = suc-mul g n in let x : ℕ = g * n in let y : ℕ = h * n in let z : ℕ = suc g * n in let a' : x + p ≡ q = a in let b' : y + p ≡ r = b in let m' : z ≤ y = m in let u' : z ≡ x + n = u in omega arith)
    (λ (w : nat_lt g h ≡ false). let l : h ≤ g = ltb-false g h w in let m : h * n ≤ g * n = mul-le-mul_right n l in let x : ℕ = g * n in let y : ℕ = h * n in let a' : x + p ≡ q = a in let b' : y + p ≡ r = b in let m' : y ≤ x = m in omega arith) (bool_cases (nat_lt g h))

one_at : (b : Bool) → cond b 1 0 + 0 ≤ 1
one_at true = omega arith
one_at false = omega arith

module _ (K : List ℕ) (r : Req) where
  pub spends_most : (v w : View) (a b c d : ℕ) → Spends K r v w a b → a ≤ c → b ≤ d → Spends K r v w c d
  spends_most v w a b c d s l m = record { steps = s.steps; is = s.is; at_own = λ x g inside at. let z = s.at_own x g inside at in omega arith; at_others = λ x g inside at. let z = s.at_others x g inside at in omega arith }

  pub spends_add : (u v w : View) (a b c d : ℕ) → Spends K r u v a b → Spends K r v w c d → Spends K r u w (a + c) (b + d)
  spends_add u v w a b c d s t = record {
    steps = t.steps ++ s.steps;
    is = t.is ∙ (ap (λ (l : List Step). t.steps ++ l) s.is ∙ sym (append_assoc t.steps s.steps u.steps));
    at_own = λ x g inside at. let y = s.at_own x g inside at in let z = t.at_own x g inside at in let e = steps_both (claim_at x) t.steps s.steps in omega arith;
    at_others = λ x g inside at. let y = s.at_others x g inside at in let z = t.at_others x g inside at in let e = else_both (claim_at x) t.steps s.steps in omega arith;
  }

  -- a step at its own word
  pub spends_own : (y h n : ℕ) (v w : View) → IsCell K y → request_at K y h ≡ r → IsStep (claim_at y) n v w → Spends K r v w 1 0
  spends_own y h n v w here is step = record {
    steps = record { word = claim_at y; found = n; seen = w.seen } ∷ [];
    is = step;
    at_own = λ x g inside at. one_at (claim_at y == claim_at x);
    at_others = λ x g inside at. let e : claim_at y ≡ claim_at x = ap claim_at (one_cell K y x h g here inside (is ∙ sym at)).0 in subst (λ (b : Bool). cond b 0 1 + 0 ≤ 0) (sym (eq-eqb (claim_at y) (claim_at x) e)) (omega arith);
  }

  -- a step at the word of a request after it that may be there while it is
  pub spends_other : (q : Req) (v w : View) → q.ring ≡ r.ring → r.k < q.k → q.k < r.k + cells_in K r.ring → StepsTo K q v w → Spends K r v w 0 1
  spends_other q v w ring lt few s = record {
    steps = record { word = claim_at y; found = s.2; seen = w.seen } ∷ [];
    is = s.5;
    at_own = λ x g inside at. ⊎_elim
        (λ (w : (claim_at y == claim_at x) ≡ true). absurd (not_there x g at (let e : claim_at y ≡ claim_at x = eqb-true (claim_at y) (claim_at x) w in let z : y ≡ x = omega arith in z)))
        (λ (w : (claim_at y == claim_at x) ≡ false). subst (λ (b : Bool). cond b 1 0 + 0 ≤ 0) (sym w) (omega arith)) (bool_cases (claim_at y == claim_at x));
    at_others = λ x g inside at. at_most (claim_at y == claim_at x);
  } where
    y : ℕ
    y = s.0

    at_most : (b : Bool) → cond b 0 1 + 0 ≤ 1
    at_most true = omega arith
    at_most false = omega arith

    not_there : (x g : ℕ) → request_at K x g ≡ r → y ≡ x → ⊥
    not_there x g at e = let is : request_at K x s.1 ≡ q = subst (λ (z : ℕ). request_at K z s.1 ≡ q) e s.4 in let n : ℕ = cells_in K (ring_of K x) in
        let same : n ≡ cells_in K r.ring = ap (λ (z : Req). cells_in K z.ring) at in
        apart n g s.1 (place_of K x) r.k q.k (ap (λ (z : Req). z.k) at) (ap (λ (z : Req). z.k) is) lt (omega (arith, few, same))
