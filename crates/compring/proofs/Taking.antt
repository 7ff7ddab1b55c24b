-- A take of the oldest post, by the list of all posts.
use Rattle.std.proofs.Common.{◌≡◌, ℕ, zero, suc, ◌+◌, ◌%◌, List, [], ◌∷◌, length, drop, Some, sym, ap, ◌∙◌, arith, length-drop}
use Rattle.std.specs.List.{slice_get}
use Rattle.std.proofs.lemmas.List.{drop-drop}
use Rattle.history.specs.declared.req.Req.{Req}
use Rattle.compring.specs.Posts.{Posts, StandsFor, waiting}

first_of_rest : (xs : List Req) (n : ℕ) (x : Req) (ys : List Req) → drop n xs ≡ x ∷ ys → slice_get xs n ≡ Some x
first_of_rest [] zero x ys e = cc
first_of_rest [] (suc n) x ys e = cc
first_of_rest (y ∷ xs) zero x ys e = let u : y ≡ x = cc in ap Some u
first_of_rest (y ∷ xs) (suc n) x ys e = first_of_rest xs n x ys e

pub next_number : (n : ℕ) → (n % 18446744073709551616 + 1) % 18446744073709551616 ≡ (n + 1) % 18446744073709551616
next_number n = omega arith

pub taken_on : (posts : List Req) (taken : ℕ) (p q : Posts) (x : Req) → StandsFor posts taken p → waiting p ≡ x ∷ waiting q → q.taken ≡ (p.taken + 1) % 18446744073709551616
    → (slice_get posts taken ≡ Some x) × (p.taken ≡ taken % 18446744073709551616) × StandsFor posts (taken + 1) q
taken_on posts taken p q x s w n =
    let e : drop taken posts ≡ x ∷ waiting q = sym s.waits ∙ w in (
      first_of_rest posts taken x (waiting q) e,
      s.number,
      record {
        waits = sym (ap (drop 1) e) ∙ drop-drop 1 taken posts;
        some = let a = ap length e in let b = length-drop taken posts in omega arith;
        number = n ∙ ap (λ z. (z + 1) % 18446744073709551616) s.number ∙ next_number taken;
      },
    )
