-- Bytes that lie in two parts, put into a buffer part by part.
use Rattle.std.proofs.Common.{◌≡◌, ℕ, zero, suc, ◌+◌, ◌-◌, ◌≤◌, min, List, [], ◌∷◌, ◌++◌, length, take, refl, sym, ap, ◌∙◌, arith, length-take, length-append, append_assoc}
use Rattle.std.proofs.lemmas.List.{take_all, take_min}
use Rattle.circular_buffer.specs.Buffer.{Buffer, buffer}

-- the first n of two lists, one after the other
take-append : (n : ℕ) (xs ys : List ℕ) → take n (xs ++ ys) ≡ take n xs ++ take (n - length xs) ys
take-append zero xs ys = let none : 0 - length xs ≡ 0 = omega arith in rw none refl
take-append (suc n) [] ys = let all : suc n - 0 ≡ suc n = omega arith in rw all refl
take-append (suc n) (x ∷ xs) ys =
    let rest : suc n - suc (length xs) ≡ n - length xs = omega arith in
    ap (λ l. x ∷ l) (take-append n xs ys) ∙ ap (λ k. x ∷ (take n xs ++ take k ys)) (sym rest)

-- n bytes of the front and, where it has fewer, of the back, of which each time as many went in as there was room for
pub both_parts : (to one two : Buffer ℕ) (front back : List ℕ) (n m a b : ℕ) → m ≡ min n (length front) → length to.items + n ≤ to.capacity
    → a ≡ min (length (take m front)) (to.capacity - length to.items) → one ≡ buffer (to.items ++ take a (take m front)) to.capacity
    → b ≡ min (length (take (n - m) back)) (one.capacity - length one.items) → two ≡ buffer (one.items ++ take b (take (n - m) back)) one.capacity
    → two ≡ buffer (to.items ++ take n (front ++ back)) to.capacity
both_parts to one two front back n m a b at room some is_one more is_two =
    let in_front = length-take m front in
    let in_back = length-take (n - m) back in
    let first : take a (take m front) ≡ take m front = take_all a (take m front) (omega arith) in
    let made : one ≡ buffer (to.items ++ take m front) to.capacity = is_one ∙ ap (λ l. buffer (to.items ++ l) to.capacity) first in
    let items : one.items ≡ to.items ++ take m front = ap (λ (x : Buffer ℕ). x.items) made in
    let capacity : one.capacity ≡ to.capacity = ap (λ (x : Buffer ℕ). x.capacity) made in
    let long : length one.items ≡ length to.items + length (take m front) = ap length items ∙ length-append to.items (take m front) in
    let second : take b (take (n - m) back) ≡ take (n - m) back = take_all b (take (n - m) back) (omega arith) in
    let begin : take m front ≡ take n front = ap (λ k. take k front) at ∙ take_min n front in
    let left : n - m ≡ n - length front = omega arith in
    let parts : take m front ++ take (n - m) back ≡ take n (front ++ back) = (λ i. begin i ++ take (left i) back) ∙ sym (take-append n front back) in
    is_two ∙ (λ i. buffer (items i ++ second i) (capacity i))
    ∙ ap (λ l. buffer l to.capacity) (append_assoc to.items (take m front) (take (n - m) back) ∙ ap (λ l. to.items ++ l) parts)
