-- A search over the numbers in a list is a search over all numbers, where the list has those that count.
use Rattle.model.proofs.Common.{Bool, Catch, List, Listed, Op, Option, Request, Some, RequestStage, [], and_left, and_right, any_below, ap, arith, blocks, bool_cases, chain_done, clear_in, common_steps, drains_of, eq-eqb, eqb-true, false, held_back, is_pending, is_running, length, list_any, lists, lt-ltb, ltb-true, nat_lt, not, pending_of, refl, runs_of, severed_in, slice_get, slice_get_past, subst, suc, sym, true, true≢false, untried, wanted, zero, ℕ, ⊎_elim, ◌&&◌, ◌<◌, ◌==◌, ◌||◌, ◌∙◌, ◌∷◌, ◌≡◌, ◌≤◌}

-- one passes
pub any_at : (p : ℕ → Bool) (n m : ℕ) → m < n → p m ≡ true → any_below p n ≡ true
any_at p zero m lt is = absurd (omega arith)
any_at p (suc n) m lt is = ⊎_elim
    (λ (w : (m == n) ≡ true). let e : p n ≡ true = sym (ap p (eqb-true m n w)) ∙ is in rw e refl)
    (λ (w : (m == n) ≡ false). let other : ¬ (m ≡ n) = λ e. true≢false (sym (eq-eqb m n e) ∙ w) in let i : any_below p n ≡ true = any_at p n m (omega arith) is in
    elim (p n) as (λ b. (b || any_below p n) ≡ true) [ true ↦ refl | false ↦ i ])
    (bool_cases (m == n))

pub any_found : (p : ℕ → Bool) (n : ℕ) → any_below p n ≡ true → (m : ℕ) × (m < n) × (p m ≡ true)
any_found p zero is = absurd (true≢false (sym is))
any_found p (suc n) is = ⊎_elim
    (λ (w : p n ≡ true). let lt : n < suc n = omega arith in (n, lt, w))
    (λ (w : p n ≡ false). let i = any_found p n (let G : Bool → Type 0 = λ b. (b || any_below p n) ≡ true in subst G w is) in let lt : i.0 < suc n = omega (arith, i.1) in (i.0, lt, i.2))
    (bool_cases (p n))

any_listed : (q : ℕ → Bool) (ms : List ℕ) (k : ℕ) → lists ms k ≡ true → q k ≡ true → list_any q ms ≡ true
any_listed q [] k i is = i
any_listed q (m ∷ ms) k i is = ⊎_elim
    (λ (w : (m == k) ≡ true). let e : q m ≡ true = ap q (eqb-true m k w) ∙ is in rw e refl)
    (λ (w : (m == k) ≡ false). let j : list_any q ms ≡ true = any_listed q ms k (let G : Bool → Type 0 = λ b. (b || lists ms k) ≡ true in subst G w i) is in
    elim (q m) as (λ b. (b || list_any q ms) ≡ true) [ true ↦ refl | false ↦ j ])
    (bool_cases (m == k))

listed_any : (q : ℕ → Bool) (ms : List ℕ) → list_any q ms ≡ true → (m : ℕ) × (q m ≡ true)
listed_any q [] is = absurd (true≢false (sym is))
listed_any q (m ∷ ms) is = ⊎_elim
    (λ (w : q m ≡ true). (m, w))
    (λ (w : q m ≡ false). listed_any q ms (let G : Bool → Type 0 = λ b. (b || list_any q ms) ≡ true in subst G w is))
    (bool_cases (q m))

pub same_answer : (a b : Bool) → (a ≡ true → b ≡ true) → (b ≡ true → a ≡ true) → a ≡ b
same_answer = grind (arith, common_steps)

-- the numbers in the list are those that can pass
pub any_listed_below : (p : ℕ → Bool) (ms : List ℕ) (n : ℕ) → ((m : ℕ) → p m ≡ true → lists ms m ≡ true) → list_any (λ m. nat_lt m n && p m) ms ≡ any_below p n
any_listed_below p ms n l = same_answer _ _
    (λ is. let f = listed_any (λ m. nat_lt m n && p m) ms is in any_at p n f.0 (ltb-true f.0 n (and_left _ _ f.1)) (and_right _ _ f.1))
    (λ is. let f = any_found p n is in any_listed (λ m. nat_lt m n && p m) ms f.0 (l f.0 f.2) (let e : nat_lt f.0 n ≡ true = lt-ltb f.0 n f.1 in rw e f.2))

pub any_listed_all : (p : ℕ → Bool) (ms : List ℕ) (n : ℕ) → ((m : ℕ) → p m ≡ true → lists ms m ≡ true) → ((m : ℕ) → n ≤ m → p m ≡ true → ⊥) → list_any p ms ≡ any_below p n
any_listed_all p ms n l none = same_answer _ _
    (λ is. let f = listed_any p ms is in ⊎_elim (λ (w : (nat_lt f.0 n) ≡ true). any_at p n f.0 (ltb-true f.0 n w) f.1)
    (λ (w : (nat_lt f.0 n) ≡ false). absurd (none f.0 (let no : ¬ (f.0 < n) = λ lt. true≢false (sym (lt-ltb f.0 n lt) ∙ w) in omega arith) f.1)) (bool_cases (nat_lt f.0 n)))
    (λ is. let f = any_found p n is in any_listed p ms f.0 (l f.0 f.2) f.2)

blocks_pending : (d : Bool) (o : Option Request) → blocks d o ≡ true → pending_of o ≡ true
blocks_pending = grind (arith, common_steps, and_left)

runs_pending_at : (s : RequestStage) → is_running (Some s) ≡ true → is_pending s ≡ true
runs_pending_at = grind (arith, common_steps)

runs_pending : (o : Option Request) → runs_of o ≡ true → pending_of o ≡ true
runs_pending = grind (arith, common_steps, runs_pending_at)

-- the searches of a ring
module _ (xs ys : List Request) (ms : List ℕ) (l : Listed xs ms) (v : xs ≡ ys) where
  pub any_blocks : (d : Bool) (k : ℕ) → list_any (λ m. nat_lt m k && blocks d (slice_get xs m)) ms ≡ any_below (λ m. blocks d (slice_get ys m)) k
  any_blocks d k = any_listed_below (λ m. blocks d (slice_get xs m)) ms k (λ m p. l m (blocks_pending d (slice_get xs m) p)) ∙ ap (λ zs. any_below (λ m. blocks d (slice_get zs m)) k) v

  pub any_wanted : (op : Op) (k : ℕ) → list_any (λ m. nat_lt m k && wanted xs op m) ms ≡ any_below (wanted ys op) k
  any_wanted op k = any_listed_below (wanted xs op) ms k (λ m p. l m (and_left _ _ p)) ∙ ap (λ zs. any_below (wanted zs op) k) v

  pub any_untried : (op : Op) (x : Catch) (k : ℕ) → list_any (λ m. nat_lt m k && untried xs op x m) ms ≡ any_below (untried ys op x) k
  any_untried op x k = any_listed_below (untried xs op x) ms k (λ m p. l m (and_left _ _ (and_left (wanted xs op m) _ p))) ∙ ap (λ zs. any_below (untried zs op x) k) v

  pub any_runs : list_any (λ m. runs_of (slice_get xs m)) ms ≡ any_below (λ m. runs_of (slice_get ys m)) (length ys)
  any_runs =
      any_listed_all (λ m. runs_of (slice_get xs m)) ms (length xs) (λ m p. l m (runs_pending (slice_get xs m) p)) (λ m le p. true≢false (sym p ∙ ap runs_of (slice_get_past xs m le)))
      ∙ ap (λ zs. any_below (λ m. runs_of (slice_get zs m)) (length zs)) v

  pub clear_is : (k : ℕ) (d held : Bool) → severed_in xs k ≡ false → chain_done xs k ≡ true → d ≡ drains_of (slice_get xs k)
      → held ≡ list_any (λ m. nat_lt m k && blocks d (slice_get xs m)) ms → not held ≡ clear_in ys k
  clear_is k d held s c is h =
      let s' : severed_in ys k ≡ false = ap (λ zs. severed_in zs k) (sym v) ∙ s in let c' : chain_done ys k ≡ true = ap (λ zs. chain_done zs k) (sym v) ∙ c in
      let h' : held ≡ held_back ys k = h ∙ any_blocks d k ∙ ap (λ b. any_below (λ m. blocks b (slice_get ys m)) k) (is ∙ ap (λ zs. drains_of (slice_get zs k)) v) in
      rw (s', c', h') refl
