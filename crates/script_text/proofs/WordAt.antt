-- The words of a line by their places, and the line as the code has it.
use borrow.Author.Tests.{ltb-true, ltb-false}
use Rattle.script_text.proofs.Common.{Bor, List, None, Some, [], ap, false, get_or, length, nat_lt, refl, slice_get, slice_get-get_or, slice_get-map, slice_get_past, sym, texts, true, word_at, ℕ, ◌∙◌, ◌≡◌}

pub word_at-some : (ws : List (Bor (List ℕ))) (n : ℕ) (w : Bor (List ℕ)) → true ≡ nat_lt n (length ws) → w ≡ get_or ws n w → w.now ≡ word_at (texts ws) n
word_at-some ws n w lt is =
    let a = slice_get-map (λ (part : Bor (List ℕ)). part.now) ws n in
    let b : slice_get ws n ≡ Some w = slice_get-get_or ws n w (ltb-true n (length ws) (sym lt)) ∙ ap Some (sym is) in
    rw (a, b) refl

pub word_at-none : (ws : List (Bor (List ℕ))) (n : ℕ) → false ≡ nat_lt n (length ws) → [] ≡ word_at (texts ws) n
word_at-none ws n ge =
    let a = slice_get-map (λ (part : Bor (List ℕ)). part.now) ws n in
    let b : slice_get ws n ≡ None = slice_get_past ws n (ltb-false n (length ws) (sym ge)) in
    rw (a, b) refl
