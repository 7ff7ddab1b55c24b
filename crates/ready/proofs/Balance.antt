-- Each step keeps the rule of the queue, and the pass with all shares knows of all puts and takes.
use mathlib.Core.Option.{some, some-injective, some-ne-none}
use lib.ListN.{get_elem?}
use Rattle.crossbeam_queue.specs.Fifo.{Pushes, Pops, Forks, Merges, Learns, Held}
use Rattle.crossbeam_queue.proofs.Lists.{at_set, at_snoc}
use Rattle.ready.specs.declared.account.Account.{Account}
use Rattle.ready.proofs.Common.{Accounts, Balanced, List, Span, [], all_shares, ap, arith, both_accounts, length, length-append, new_account, no_account, refl, set, share_of, subst, suc, sum_by, sum_by-append, sum_by-cons, sum_by_push, sym, account, weight_put, weight_taken, with_put, with_taken, without_share, zero, ℕ, ⊎_elim, ◌++◌, ◌+◌, ◌<◌, ◌∙◌, ◌∷◌, ◌≡◌, ◌≢◌, ◌≤◌}

-- a sum over all passes, where one of them changes
sum_set : (f : Account → ℕ) (views : List Account) (i : ℕ) (v w : Account) → get_elem? views i ≡ some v → sum_by f (set views i w) + f v ≡ sum_by f views + f w
sum_set f [] i v w e = absurd (some-ne-none v (sym e))
sum_set f (x ∷ xs) zero v w e = let s : f x ≡ f v = ap f (some-injective x v e) in omega (arith, sum_by-cons f x xs, sum_by-cons f w xs)
sum_set f (x ∷ xs) (suc i) v w e = omega (arith, sum_by-cons f x xs, sum_by-cons f x (set xs i w), sum_set f xs i v w e)

-- a pass without a share has put and taken nothing
abbrev Empty : Account → Type 0
Empty v = v.share ≡ 0 → (v.put ≡ []) × (v.taken ≡ [])

abbrev AllEmpty : List Account → Type 0
AllEmpty views = (i : ℕ) (v : Account) → get_elem? views i ≡ some v → Empty v

empty_set : (views : List Account) (i : ℕ) (w : Account) → Empty w → AllEmpty views → AllEmpty (set views i w)
empty_set views i w mine others j u e = ⊎_elim (λ (x : (j ≡ i) × (w ≡ u)). subst Empty x.1 mine) (λ (x : (j ≢ i) × (get_elem? views j ≡ some u)). others j u x.1) (at_set views i j w u e)

empty_snoc : (views : List Account) (w : Account) → Empty w → AllEmpty views → AllEmpty (views ++ w ∷ [])
empty_snoc views w mine others j u e = ⊎_elim (λ (x : get_elem? views j ≡ some u). others j u x) (λ (x : w ≡ u). subst Empty x mine) (at_snoc views w u j e)

pub puts : (n i : ℕ) (v : Account) (r : Span) → 0 < v.share → Pushes Balanced n i v r (λ w. w ≡ with_put r v)
puts n i v r some_share items views room b at = let w : Account = with_put r v in (
  w,
  record {
    whole = let s = sum_set share_of views i v w at in let p = b.whole in omega arith;
    even = λ h.
        let s = sum_set (weight_put h) views i v w at in
        let t = sum_set (weight_taken h) views i v w at in
        let p = b.even h in
        omega (arith, sum_by_push h v.put r, sum_by_push h items r);
    spent = empty_set views i w (λ none. absurd (omega arith)) b.spent;
  },
  refl,
)

pub takes : (i : ℕ) (v : Account) → 0 < v.share → Pops Balanced i v (λ r w. w ≡ with_taken r v)
takes i v some_share r items views b at = let w : Account = with_taken r v in (
  w,
  record {
    whole = let s = sum_set share_of views i v w at in let p = b.whole in omega arith;
    even = λ h.
        let s = sum_set (weight_put h) views i v w at in
        let t = sum_set (weight_taken h) views i v w at in
        let p = b.even h in
        omega (arith, sum_by_push h v.taken r, sum_by-cons h r items);
    spent = empty_set views i w (λ none. absurd (omega arith)) b.spent;
  },
  refl,
)

pub forks : (i : ℕ) (v : Account) → 1 < v.share → Forks Balanced i v (without_share v) new_account
forks i v two items views b at = let w : Account = without_share v in record {
  whole = let s = sum_set share_of views i v w at in let p = b.whole in omega (arith, sum_by_push share_of (set views i w) new_account);
  even = λ h.
      let s = sum_set (weight_put h) views i v w at in
      let t = sum_set (weight_taken h) views i v w at in
      let p = b.even h in
      omega (arith, sum_by_push (weight_put h) (set views i w) new_account, sum_by_push (weight_taken h) (set views i w) new_account);
  spent = empty_snoc (set views i w) new_account (λ none. absurd (omega arith)) (empty_set views i w (λ none. absurd (omega arith)) b.spent);
}

pub merges : (i : ℕ) (v : Account) (j : ℕ) (u : Account) → 0 < v.share → Merges Balanced i v j u (both_accounts v u) no_account
merges i v j u some_share items views b at apart at' = let w : Account = both_accounts v u in let vs : List Account = set views i w in record {
  whole = let s = sum_set share_of views i v w at in let t = sum_set share_of vs j u no_account at' in let p = b.whole in omega arith;
  even = λ h.
      let s = sum_set (weight_put h) views i v w at in
      let t = sum_set (weight_taken h) views i v w at in
      let s' = sum_set (weight_put h) vs j u no_account at' in
      let t' = sum_set (weight_taken h) vs j u no_account at' in
      let p = b.even h in
      omega (arith, sum_by-append h v.put u.put, sum_by-append h v.taken u.taken);
  spent = empty_set vs j no_account (λ none. (refl, refl)) (empty_set views i w (λ none. absurd (omega arith)) b.spent);
}

-- f is 0 of each pass without a share
abbrev Ignores : (Account → ℕ) → List Account → Type 0
Ignores f views = (i : ℕ) (v : Account) → get_elem? views i ≡ some v → v.share ≡ 0 → f v ≡ 0

none_of : (f : Account → ℕ) (views : List Account) → Ignores f views → sum_by share_of views ≡ 0 → sum_by f views ≡ 0
none_of f [] g e = refl
none_of f (x ∷ xs) g e =
    let s = sum_by-cons share_of x xs in
    let a : f x ≡ 0 = g zero x refl (omega arith) in
    let b : sum_by f xs ≡ 0 = none_of f xs (λ i v at. g (suc i) v at) (omega arith) in
    omega (arith, sum_by-cons f x xs)

at_most : (f : Account → ℕ) (views : List Account) (i : ℕ) (v : Account) → get_elem? views i ≡ some v → f v ≤ sum_by f views
at_most f [] i v e = absurd (some-ne-none v (sym e))
at_most f (x ∷ xs) zero v e = let s : f x ≡ f v = ap f (some-injective x v e) in omega (arith, sum_by-cons f x xs)
at_most f (x ∷ xs) (suc i) v e = omega (arith, sum_by-cons f x xs, at_most f xs i v e)

-- the pass with all shares is the only one of which f isn't 0
alone : (f : Account → ℕ) (views : List Account) (i : ℕ) (v : Account) → get_elem? views i ≡ some v → Ignores f views → sum_by share_of views ≡ v.share → sum_by f views ≡ f v
alone f [] i v e g all = absurd (some-ne-none v (sym e))
alone f (x ∷ xs) zero v e g all =
    let s : f x ≡ f v = ap f (some-injective x v e) in
    let p : x.share ≡ v.share = ap share_of (some-injective x v e) in
    let c = sum_by-cons share_of x xs in
    let b : sum_by f xs ≡ 0 = none_of f xs (λ i u at. g (suc i) u at) (omega arith) in
    omega (arith, sum_by-cons f x xs)
alone f (x ∷ xs) (suc i) v e g all =
    let c = sum_by-cons share_of x xs in
    let m = at_most share_of xs i v e in
    let a : f x ≡ 0 = g zero x refl (omega arith) in
    let b : sum_by f xs ≡ f v = alone f xs i v e (λ j u at. g (suc j) u at) (omega arith) in
    omega (arith, sum_by-cons f x xs)

pub accounts : (i : ℕ) (v : Account) → v.share ≡ all_shares → Learns Balanced i v (Accounts v)
accounts i v all items views b at h =
    let whole : sum_by share_of views ≡ v.share = b.whole ∙ sym all in
    let s : sum_by (weight_put h) views ≡ sum_by h v.put = alone (weight_put h) views i v at (λ j u e none. ap (λ (z : List Span). sum_by h z) (b.spent j u e none).0) whole in
    let t : sum_by (weight_taken h) views ≡ sum_by h v.taken = alone (weight_taken h) views i v at (λ j u e none. ap (λ (z : List Span). sum_by h z) (b.spent j u e none).1) whole in
    let p = b.even h in
    omega arith

at_first : (i : ℕ) (v : Account) → get_elem? (account all_shares [] [] ∷ []) i ≡ some v → Empty v
at_first zero v e = let s : all_shares ≡ v.share = ap share_of (some-injective (account all_shares [] []) v e) in λ none. absurd (omega arith)
at_first (suc i) v e = absurd (some-ne-none v (sym e))

pub begins : Balanced [] (account all_shares [] [] ∷ [])
begins = record {
  whole = refl;
  even = λ h. refl;
  spent = λ i v e. at_first i v e;
}

ones : (rs : List Span) → sum_by (λ (r : Span). 1) rs ≡ length rs
ones [] = refl
ones (r ∷ rs) = omega (arith, sum_by-cons (λ (x : Span). 1) r rs, ones rs)

-- as many were put as were taken and are left
counted : (v : Account) (items : List Span) → Accounts v items → length v.put ≡ length v.taken + length items
counted v items a = let e = a (λ (r : Span). 1) in omega (arith, ones v.put, ones v.taken, ones items)

-- where n were left, the queue isn't empty before n more are taken
pub too_soon : (n : ℕ) (v w : Account) (left : List Span) → Held n (Accounts v) → w ≡ account v.share v.put (v.taken ++ left) → Held 0 (Accounts w) → length left < n → ⊥
too_soon n v w left held is none fewer =
    let a = counted v held.0 held.2 in
    let b = counted w none.0 none.2 in
    let p : length w.put ≡ length v.put = ap (λ (z : Account). length z.put) is in
    let t : length w.taken ≡ length (v.taken ++ left) = ap (λ (z : Account). length z.taken) is in
    let l = length-append v.taken left in
    let c = held.1 in
    let d = none.1 in
    omega arith

no_items : (items : List Span) → length items ≡ 0 → items ≡ []
no_items [] e = refl
no_items (r ∷ rs) e = absurd (omega arith)

-- where n were left, and n more were taken, these are all
pub settled : (n : ℕ) (v w : Account) (left : List Span) → Held n (Accounts v) → w ≡ account v.share v.put (v.taken ++ left) → (items : List Span) × Accounts w items → length left ≡ n → Accounts v left
settled n v w left held is rest as_many h =
    let a = counted v held.0 held.2 in
    let b = counted w rest.0 rest.1 in
    let p : length w.put ≡ length v.put = ap (λ (z : Account). length z.put) is in
    let t : length w.taken ≡ length (v.taken ++ left) = ap (λ (z : Account). length z.taken) is in
    let l = length-append v.taken left in
    let c = held.1 in
    let none : length rest.0 ≡ 0 = omega arith in
    let nothing : sum_by h rest.0 ≡ 0 = ap (λ (z : List Span). sum_by h z) (no_items rest.0 none) in
    let q : sum_by h w.put ≡ sum_by h v.put = ap (λ (z : Account). sum_by h z.put) is in
    let s : sum_by h w.taken ≡ sum_by h (v.taken ++ left) = ap (λ (z : Account). sum_by h z.taken) is in
    let e = rest.1 h in
    omega (arith, sum_by-append h v.taken left)
