-- The requests of a ring after a write, and those of them that were not answered.
use Prim.Native.Nat.compare
use lib.Dec.{compare_is_eq}
use Rattle.model.proofs.Common.{Bool, Catch, Err, List, Listed, None, Ok, OnErr, OnOk, Request, Result, Some, [], ap, arith, bool_cases, common_steps, cond, eq-eqb, eqb-true, false, filter, get_or, is_pending, length, lists, not, not_true, pending_of, put, put_at, put_found, refl, set, set-get_or, slice_get, slice_get_read, subst, suc, sym, true, true≢false, zero, ℕ, ⊎_elim, ◌++◌, ◌<◌, ◌==◌, ◌||◌, ◌∙◌, ◌∷◌, ◌≡◌}

pub apart : (i j : ℕ) → ¬ (i ≡ j) → (i == j) ≡ false
apart i j n = not_true (i == j) (λ e. n (eqb-true i j e))

eq-suc : (i j : ℕ) → (suc i == suc j) ≡ (i == j)
eq-suc i j = ap compare_is_eq (compare.suc-suc i j)

pub slice_get-set : {A : Type 0} (xs : List A) (i j : ℕ) (y : A) → i < length xs → slice_get (set xs i y) j ≡ cond (i == j) (Some y) (slice_get xs j)
slice_get-set [] i j y lt = absurd (omega arith)
slice_get-set (x ∷ xs) zero zero y lt = refl
slice_get-set (x ∷ xs) zero (suc j) y lt = sym (ap (λ b. cond b (Some y) (slice_get xs j)) (apart 0 (suc j) (λ e. absurd (omega arith))))
slice_get-set (x ∷ xs) (suc i) zero y lt = sym (ap (λ b. cond b (Some y) (Some x)) (apart (suc i) 0 (λ e. absurd (omega arith))))
slice_get-set (x ∷ xs) (suc i) (suc j) y lt = slice_get-set xs i j y (omega arith) ∙ sym (ap (λ b. cond b (Some y) (slice_get xs j)) (eq-suc i j))

pub slice_get-push : {A : Type 0} (xs : List A) (y : A) (j : ℕ) → slice_get (xs ++ y ∷ []) j ≡ cond (length xs == j) (Some y) (slice_get xs j)
slice_get-push [] y zero = refl
slice_get-push [] y (suc j) = sym (ap (λ b. cond b (Some y) None) (apart 0 (suc j) (λ e. absurd (omega arith))))
slice_get-push (x ∷ xs) y zero = sym (ap (λ b. cond b (Some y) (Some x)) (apart (suc (length xs)) 0 (λ e. absurd (omega arith))))
slice_get-push (x ∷ xs) y (suc j) = slice_get-push xs y j ∙ sym (ap (λ b. cond b (Some y) (slice_get xs j)) (eq-suc (length xs) j))

or_left : (a b : Bool) → a ≡ true → (a || b) ≡ true
or_left a b e = rw e refl

or_right : (a b : Bool) → b ≡ true → (a || b) ≡ true
or_right = grind (arith, common_steps)

pub lists-push : (ms : List ℕ) (n k : ℕ) → lists (ms ++ n ∷ []) k ≡ lists ms k || (n == k)
lists-push [] n k = elim (n == k) as (λ b. (b || false) ≡ b) [ true ↦ refl | false ↦ refl ]
lists-push (m ∷ ms) n k = elim (m == k) as (λ b. (b || lists (ms ++ n ∷ []) k) ≡ ((b || lists ms k) || (n == k))) [ true ↦ refl | false ↦ lists-push ms n k ]

pub lists_more : (ms : List ℕ) (n k : ℕ) → lists ms k ≡ true → lists (ms ++ n ∷ []) k ≡ true
lists_more ms n k i = lists-push ms n k ∙ or_left (lists ms k) (n == k) i

pub lists_last : (ms : List ℕ) (n k : ℕ) → (n == k) ≡ true → lists (ms ++ n ∷ []) k ≡ true
lists_last ms n k i = lists-push ms n k ∙ or_right (lists ms k) (n == k) i

-- all but one number are left
pub lists_left : (p : ℕ → Bool) (ms : List ℕ) (k : ℕ) → p k ≡ true → lists ms k ≡ true → lists (filter p ms) k ≡ true
lists_left p [] k is i = i
lists_left p (m ∷ ms) k is i = ⊎_elim
    (λ (w : p m ≡ true). let G : Bool → Type 0 = λ b. lists (cond b (m ∷ filter p ms) (filter p ms)) k ≡ true in subst G (sym w)
    (elim (m == k) as (λ b. (b || lists ms k) ≡ true → (b || lists (filter p ms) k) ≡ true) [ true ↦ λ _. refl | false ↦ λ j. lists_left p ms k is j ] i))
    (λ (w : p m ≡ false). let G : Bool → Type 0 = λ b. lists (cond b (m ∷ filter p ms) (filter p ms)) k ≡ true in subst G (sym w) (⊎_elim
    (λ (u : (m == k) ≡ true). absurd (true≢false (sym is ∙ ap p (sym (eqb-true m k u)) ∙ w)))
    (λ (u : (m == k) ≡ false). lists_left p ms k is (let G' : Bool → Type 0 = λ b. (b || lists ms k) ≡ true in subst G' u i))
    (bool_cases (m == k))))
    (bool_cases (p m))

pub Listed_more : (xs : List Request) (ms : List ℕ) (n : ℕ) → Listed xs ms → Listed xs (ms ++ n ∷ [])
Listed_more xs ms n l k p = lists_more ms n k (l k p)

pub Listed-push : (xs : List Request) (ms : List ℕ) (x : Request) → Listed xs ms → Listed (xs ++ x ∷ []) (ms ++ length xs ∷ [])
Listed-push xs ms x l k p = ⊎_elim
    (λ (w : (length xs == k) ≡ true). lists_last ms (length xs) k w)
    (λ (w : (length xs == k) ≡ false). lists_more ms (length xs) k (l k (sym (ap pending_of (slice_get-push xs x k ∙ ap (λ b. cond b (Some x) (slice_get xs k)) w)) ∙ p)))
    (bool_cases (length xs == k))

-- a request was written, and all numbers but its own are left
pub Listed-set : (xs : List Request) (ms ns : List ℕ) (i : ℕ) (y : Request) → i < length xs → Listed xs ms
    → ((k : ℕ) → (i == k) ≡ false → lists ms k ≡ true → lists ns k ≡ true) → (is_pending y.stage ≡ true → lists ns i ≡ true) → Listed (set xs i y) ns
Listed-set xs ms ns i y lt l others own k p = ⊎_elim
    (λ (w : (i == k) ≡ true). let s : is_pending y.stage ≡ true = sym (ap pending_of (slice_get-set xs i k y lt ∙ ap (λ b. cond b (Some y) (slice_get xs k)) w)) ∙ p in
    subst (λ (z : ℕ). lists ns z ≡ true) (eqb-true i k w) (own s))
    (λ (w : (i == k) ≡ false). others k w (l k (sym (ap pending_of (slice_get-set xs i k y lt ∙ ap (λ b. cond b (Some y) (slice_get xs k)) w)) ∙ p)))
    (bool_cases (i == k))

not_true' : (b : Bool) → b ≡ false → not b ≡ true
not_true' b e = ap not e

-- after `forget`
pub others_left : (ms : List ℕ) (i k : ℕ) → (i == k) ≡ false → lists ms k ≡ true → lists (filter (λ m. not (m == i)) ms) k ≡ true
others_left ms i k w l = lists_left (λ m. not (m == i)) ms k (not_true' (k == i) (apart k i (λ e. true≢false (sym (eq-eqb i k (sym e)) ∙ w)))) l

-- a request was written
pub written : (f : Request → Request) (xs ys : List Request) (k : ℕ) (d : Request) → xs ≡ ys → k < length xs → d ≡ get_or xs k d → set xs k (f d) ≡ put ys k f
written f xs ys k d e lt v = sym (ap (put_at xs k f) (slice_get_read xs (length xs) k d refl lt v)) ∙ ap (λ zs. put zs k f) e

-- what a cancel has done was written, or not
pub found_written : {T E : Type 0} (answer : Result T E) (f : Catch → Catch) (xs ys : List Request) (k : ℕ) (d : Request) (n : Catch) → xs ≡ ys → k < length xs → d ≡ get_or xs k d
    → OnOk answer (n ≡ f d.found) → OnOk answer (set xs k (record d { found = n }) ≡ put_found ys k f)
found_written (Ok u) f xs ys k d n e lt v w = ap (λ (z : Catch). set xs k (record d { found = z })) w ∙ written (λ (z : Request). record z { found = f z.found }) xs ys k d e lt v
found_written (Err u) f xs ys k d n e lt v w = tt

pub found_unwritten : {T E : Type 0} (answer : Result T E) (xs ys : List Request) (k : ℕ) (d : Request) (n : Catch) → xs ≡ ys → d ≡ get_or xs k d
    → OnErr answer (n ≡ d.found) → OnErr answer (set xs k (record d { found = n }) ≡ ys)
found_unwritten = grind (arith, common_steps, set-get_or)

pub Listed-stage : (xs : List Request) (ms ns : List ℕ) (k : ℕ) (y : Request) → k < length xs → Listed xs ms → ns ≡ filter (λ m. not (m == k)) ms → is_pending y.stage ≡ false → Listed (set xs k y) ns
Listed-stage xs ms ns k y lt l e f = Listed-set xs ms ns k y lt l (λ i w j. rw e (others_left ms k i w j)) (λ p. absurd (true≢false (sym p ∙ f)))

pub Listed-same : (xs : List Request) (ms : List ℕ) (k : ℕ) (y : Request) → k < length xs → Listed xs ms → (is_pending y.stage ≡ true → pending_of (slice_get xs k) ≡ true) → Listed (set xs k y) ms
Listed-same xs ms k y lt l p = Listed-set xs ms ms k y lt l (λ i w j. j) (λ q. l k (p q))

-- the request k was written, whose number is there in any case
pub Listed-back : (xs : List Request) (ms : List ℕ) (k : ℕ) (y : Request) → k < length xs → Listed xs ms → Listed (set xs k y) (ms ++ k ∷ [])
Listed-back xs ms k y lt l = Listed-set xs ms (ms ++ k ∷ []) k y lt l (λ i w j. lists_more ms k i j) (λ p. lists_last ms k k (eq-eqb k k refl))
