-- What the own events of a cancel's worker tell: which requests it took, how many, and which it found running.
use Rattle.work.proofs.Common.{AreHits, Bool, Event, Hit, List, Miss, Req, Take, [], ap, arith, cond, false, has_missed, hit, length, length-append, missed, ne_eqb, refl, same, same_itself, suc, taken_in, taken_count, took, true, ℕ, ◌++◌, ◌+◌, ◌==◌, ◌||◌, ◌∙◌, ◌∷◌, ◌≡◌, ◌≢◌, ◌≤◌}

same_as : (a b : Req) → a ≡ b → same a b ≡ true
same_as a b e = ap (λ (z : Req). same z b) e ∙ same_itself b

pub hits_below : (r : Req) (k m : ℕ) (own : List Event) → k ≤ m → AreHits r k own → AreHits r m own
hits_below r k m [] le h = tt
hits_below r k m (Take c t ∷ own) le h = (h.0, (let lt = h.1 in omega arith), h.2)
hits_below r k m (Miss c t ∷ own) le h = (h.0, (let lt = h.1 in omega arith), h.2)
hits_below r k m (e ∷ own) le h = h

after_took : (b : Bool) (t : Req) (x : Hit) (m : ℕ) → has_missed (cond b (took t x) x) m ≡ has_missed x m
after_took true t x m = refl
after_took false t x m = refl

after_missed : (b : Bool) (t : Req) (x : Hit) (m : ℕ) → t.k ≢ m → has_missed (cond b (missed t x) x) m ≡ has_missed x m
after_missed true t x m ne = ap (λ (a : Bool). a || has_missed x m) (ne_eqb t.k m ne)
after_missed false t x m ne = refl

-- it found none running from the next number on
pub none_missed : (r : Req) (k m : ℕ) (own : List Event) → AreHits r k own → k ≤ m → has_missed (hit own r) m ≡ false
none_missed r k m [] h le = refl
none_missed r k m (Take c t ∷ own) h le = after_took (same c r) t (hit own r) m ∙ none_missed r t.k m own h.2 (let lt = h.1 in omega arith)
none_missed r k m (Miss c t ∷ own) h le = after_missed (same c r) t (hit own r) m (λ (e : t.k ≡ m). (let lt = h.1 in omega arith)) ∙ none_missed r t.k m own h.2 (let lt = h.1 in omega arith)
none_missed r k m (e ∷ own) h le = absurd h

pub taken_count_of : (r : Req) (k : ℕ) (own : List Event) → AreHits r k own → taken_count (hit own r) ≡ length (taken_in own)
taken_count_of r k [] h = refl
taken_count_of r k (Take c t ∷ own) h = let i : taken_count (hit own r) ≡ length (taken_in own) = taken_count_of r t.k own h.2 in let l : length (taken_in own ++ (t ∷ [])) ≡ length (taken_in own) + 1 = length-append (taken_in own) (t ∷ []) in
    ap (λ (b : Bool). taken_count (cond b (took t (hit own r)) (hit own r))) (same_as c r h.0) ∙ (let z : suc (taken_count (hit own r)) ≡ length (taken_in own ++ (t ∷ [])) = omega arith in z)
taken_count_of r k (Miss c t ∷ own) h = ap (λ (b : Bool). taken_count (cond b (missed t (hit own r)) (hit own r))) (same_as c r h.0) ∙ taken_count_of r t.k own h.2
taken_count_of r k (e ∷ own) h = absurd h

-- what it found running it still found
pub still_took : (b : Bool) (t : Req) (x : Hit) (m : ℕ) → has_missed x m ≡ true → has_missed (cond b (took t x) x) m ≡ true
still_took b t x m is = after_took b t x m ∙ is

pub still_missed : (b : Bool) (t : Req) (x : Hit) (m : ℕ) → has_missed x m ≡ true → has_missed (cond b (missed t x) x) m ≡ true
still_missed true t x m is = by (t.k == m) is where
  by : (a : Bool) → has_missed x m ≡ true → (a || has_missed x m) ≡ true
  by true e = refl
  by false e = e
still_missed false t x m is = is
