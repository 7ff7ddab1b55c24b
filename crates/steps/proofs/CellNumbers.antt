-- Cells, requests and claim words tell each other apart.
use Rattle.steps.proofs.Common.{Armed, Bool, Done, Empty, Held, IsCell, List, Ready, Req, Running, SFits, Tag, [], ap, arith, cells_in, cond, eqb, false, ints, length, ltb-false, ltb-true, mul-le-mul_right, nat_lt, negsuc, of_z, place_of, pos, refl, reply_bits, request_at, ring_of, same, same_false, subst, suc, suc-mul, sym, tag_number, true, w32, word_of, zero, ℕ, ℤ, ◌*◌, ◌+◌, ◌-◌, ◌<◌, ◌∙◌, ◌∷◌, ◌≡◌, ◌≤◌}

-- a place within a row of n
row_of : (n a b c d : ℕ) → b < n → d < n → a * n + b ≡ c * n + d → ¬ (a < c)
row_of n a b c d s t e l =
    let m : suc a * n ≤ c * n = mul-le-mul_right n l in let u : suc a * n ≡ a * n + n = suc-mul a n in let x : ℕ = a * n in let y : ℕ = c * n in let z : ℕ = suc a * n in
    let m' : z ≤ y = m in let u' : z ≡ x + n = u in let e' : x + b ≡ y + d = e in omega arith

pub one_row : (n a b c d : ℕ) → b < n → d < n → a * n + b ≡ c * n + d → (a ≡ c) × (b ≡ d)
one_row n a b c d s t e =
    let p : ¬ (a < c) = row_of n a b c d s t e in let q : ¬ (c < a) = row_of n c d a b t s (sym e) in let r : a ≡ c = omega arith in
    let f : c * n + b ≡ c * n + d = ap (λ (z : ℕ). z * n + b) (sym r) ∙ e in let x : ℕ = c * n in let f' : x + b ≡ x + d = f in (r, omega arith)

-- the number of the first cell of the ring i
abbrev pub first_cell : List ℕ → ℕ → ℕ
first_cell [] i = 0
first_cell (n ∷ K) zero = 0
first_cell (n ∷ K) (suc i) = n + first_cell K i

two_ways : (b : Bool) (A : Type 0) → (b ≡ true → A) → (b ≡ false → A) → A
two_ways true A p q = p refl
two_ways false A p q = q refl

-- a cell's number tells its ring and place, and they tell the number
pub located : (K : List ℕ) (x : ℕ) → IsCell K x → (x ≡ first_cell K (ring_of K x) + place_of K x) × (place_of K x < cells_in K (ring_of K x))
located [] x h = absurd (omega arith)
located (n ∷ K) x h = two_ways (nat_lt x n) _
    (λ w. subst (λ (b : Bool). let r : ℕ = cond b 0 (suc (ring_of K (x - n))) in let p : ℕ = cond b x (place_of K (x - n)) in (x ≡ first_cell (n ∷ K) r + p) × (p < cells_in (n ∷ K) r)) (sym w) (omega arith, ltb-true x n w))
    (λ w. subst (λ (b : Bool). let r : ℕ = cond b 0 (suc (ring_of K (x - n))) in let p : ℕ = cond b x (place_of K (x - n)) in (x ≡ first_cell (n ∷ K) r + p) × (p < cells_in (n ∷ K) r)) (sym w)
    (let l : n ≤ x = ltb-false x n w in let i = located K (x - n) (omega arith) in let e = i.0 in (omega arith, i.1)))

cells_beyond : (K : List ℕ) (i : ℕ) → length K < suc i → cells_in K i ≡ 0
cells_beyond [] i h = refl
cells_beyond (n ∷ K) zero h = absurd (omega arith)
cells_beyond (n ∷ K) (suc i) h = cells_beyond K i (omega arith)

-- a cell's ring is there
pub ring_in : (K : List ℕ) (x : ℕ) → IsCell K x → ring_of K x < length K
ring_in K x h = let a = located K x h in let z : ¬ (length K < suc (ring_of K x)) = λ l. (let b = cells_beyond K (ring_of K x) l in let c = a.1 in absurd (omega arith)) in omega arith

pub one_cell : (K : List ℕ) (x y g h : ℕ) → IsCell K x → IsCell K y → request_at K x g ≡ request_at K y h → (x ≡ y) × (g ≡ h)
one_cell K x y g h s t e =
    let a = located K x s in let b = located K y t in
    let ring : ring_of K x ≡ ring_of K y = ap (λ (r : Req). r.ring) e in
    let n : ℕ = cells_in K (ring_of K x) in
    let t' : place_of K y < n = subst (λ (i : ℕ). place_of K y < cells_in K i) (sym ring) b.1 in
    let k : g * n + place_of K x ≡ h * n + place_of K y = ap (λ (r : Req). r.k) e ∙ ap (λ (i : ℕ). h * cells_in K i + place_of K y) (sym ring) in
    let u = one_row n g (place_of K x) h (place_of K y) a.1 t' k in
    (a.0 ∙ ((λ i. first_cell K (ring i) + u.1 i) ∙ sym b.0), u.0)

pub other_cell : (K : List ℕ) (x y g h : ℕ) → IsCell K x → IsCell K y → ¬ (y ≡ x) → same (request_at K x g) (request_at K y h) ≡ false
other_cell K x y g h s t n = same_false _ _ (λ e. n (sym (one_cell K x y g h s t e).0))

pub other_age : (K : List ℕ) (x g h : ℕ) → IsCell K x → ¬ (h ≡ g) → same (request_at K x g) (request_at K x h) ≡ false
other_age K x g h s n = same_false _ _ (λ e. n (sym (one_cell K x x g h s s e).1))

pub tag_fits : (t : Tag) → tag_number t < 6
tag_fits Empty = omega arith
tag_fits t = omega arith

tag_at : ℕ → Tag
tag_at n = cond (eqb n 0) Empty (cond (eqb n 1) Held (cond (eqb n 2) Ready (cond (eqb n 3) Running (cond (eqb n 4) Armed Done))))

tag_at-number : (t : Tag) → tag_at (tag_number t) ≡ t
unfolding tag_at
tag_at-number Empty = refl
tag_at-number t = refl

one_tag : (s t : Tag) → tag_number s ≡ tag_number t → s ≡ t
one_tag s t e = sym (tag_at-number s) ∙ (ap tag_at e ∙ tag_at-number t)

four_parts : (t c g p t' c' g' p' : ℕ) → t < 16 → c < 16 → g < 16777216 → p < 4294967296 → t' < 16 → c' < 16 → g' < 16777216 → p' < 4294967296
    → ((t + 16 * c) + 256 * g) + 4294967296 * p ≡ ((t' + 16 * c') + 256 * g') + 4294967296 * p' → (t ≡ t') × (c ≡ c') × (g ≡ g') × (p ≡ p')
four_parts t c g p t' c' g' p' a b d e a' b' d' e' h = (omega arith, omega arith, omega arith, omega arith)

-- a claim word tells its parts
pub one_word : (t t' : Tag) (c g p c' g' p' : ℕ) → c < 16 → g < 16777216 → p < 4294967296 → c' < 16 → g' < 16777216 → p' < 4294967296 → word_of t c g p ≡ word_of t' c' g' p' → (t ≡ t') × (c ≡ c') × (g ≡ g') × (p ≡ p')
one_word t t' c g p c' g' p' b d e b' d' e' h =
    let f = tag_fits t in let f' = tag_fits t' in let o = four_parts (tag_number t) c g p (tag_number t') c' g' p' (omega arith) b d e (omega arith) b' d' e' h in (one_tag t t' o.0, o.1, o.2, o.3)

pub bits_are : (z : ℤ) (b : ℕ) → SFits w32 z → b ≡ of_z w32 z → reply_bits z b
bits_are (pos n) b f e = (omega (arith, ints), omega (arith, ints))
bits_are (negsuc n) b f e = (omega (arith, ints), omega (arith, ints))

pub bits_fit : (z : ℤ) (b : ℕ) → reply_bits z b → b < 4294967296
bits_fit (pos n) b s = let x = s.0 in let y = s.1 in omega arith
bits_fit (negsuc n) b s = let x = s.0 in let y = s.1 in omega arith

-- bits and results tell each other
pub same_bits : (res : ℤ) (a b : ℕ) → reply_bits res a → reply_bits res b → a ≡ b
same_bits (pos n) a b x y = x.1 ∙ sym y.1
same_bits (negsuc n) a b x y = let p = x.1 in let q = y.1 in omega arith

pub one_result : (r q : ℤ) (b : ℕ) → reply_bits r b → reply_bits q b → r ≡ q
one_result (pos n) (pos m) b x y = let e : n ≡ m = sym x.1 ∙ y.1 in ap pos e
one_result (pos n) (negsuc m) b x y = absurd (let p = x in let q = y in omega arith)
one_result (negsuc n) (pos m) b x y = absurd (let p = x in let q = y in omega arith)
one_result (negsuc n) (negsuc m) b x y = let e : n ≡ m = (let p = x in let q = y in omega arith) in ap negsuc e

-- the ring of a request that has a cell has cells
pub some_cells : (K : List ℕ) (x g : ℕ) (r : Req) → IsCell K x → request_at K x g ≡ r → place_of K x < cells_in K r.ring
some_cells K x g r inside at = subst (λ (i : ℕ). place_of K x < cells_in K i) (ap (λ (q : Req). q.ring) at) (located K x inside).1

-- an earlier request's generation is no greater
age_before : (n g h p q : ℕ) → q < n → h * n + p < g * n + q → h ≤ g
age_before n g h p q small lt = two_ways (nat_lt g h) _
    (λ w. let gt : g < h = ltb-true g h w in let m : suc g * n ≤ h * n = mul-le-mul_right n gt in let u : suc g * n ≡ g * n + n = suc-mul g n in
    absurd (let x : ℕ = g * n in let y : ℕ = h * n in let z : ℕ = suc g * n in let m' : z ≤ y = m in let u' : z ≡ x + n = u in let e' : y + p < x + q = lt in omega arith))
    (λ w. ltb-false g h w)

pub age_small : (K : List ℕ) (x y g h : ℕ) (r q : Req) → IsCell K x → request_at K x g ≡ r → request_at K y h ≡ q → q.ring ≡ r.ring → q.k < r.k → g < 16777216 → h < 16777216
age_small K x y g h r q inside at is same_ring lt small =
    let n : ℕ = cells_in K r.ring in let here : cells_in K (ring_of K x) ≡ n = ap (λ (z : Req). cells_in K z.ring) at in let there : cells_in K (ring_of K y) ≡ n = ap (λ (z : Req). cells_in K z.ring) is ∙ ap (cells_in K) same_ring in
    let a : g * n + place_of K x ≡ r.k = ap (λ (m : ℕ). g * m + place_of K x) (sym here) ∙ ap (λ (z : Req). z.k) at in let b : h * n + place_of K y ≡ q.k = ap (λ (m : ℕ). h * m + place_of K y) (sym there) ∙ ap (λ (z : Req). z.k) is in
    let le : h ≤ g = age_before n g h (place_of K y) (place_of K x) (some_cells K x g r inside at) (let u : ℕ = g * n + place_of K x in let v : ℕ = h * n + place_of K y in let a' : u ≡ r.k = a in let b' : v ≡ q.k = b in let lt' : v < u = omega arith in lt') in omega arith
