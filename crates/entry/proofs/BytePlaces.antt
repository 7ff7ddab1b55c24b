-- Numbers written into the bytes from a place on.
use borrow.Rule.Slice.PartMut.{mid_of, put_mid}
use Rattle.entry.proofs.Common.{List, [], ap, append-nil, arith, drop, drop-drop, drop_all, length, length-drop, put, take, take_all, ℕ, ◌++◌, ◌+◌, ◌-◌, ◌∙◌, ◌≡◌, ◌≤◌}

-- a write into the first n bytes of `&mut s[a..]`
pub put-from_tail : (a n : ℕ) (bytes part new : List ℕ) → a + n ≤ length bytes → new ≡ part ++ drop n (mid_of a (length bytes - a) bytes)
    → put_mid a (length bytes - a) bytes new ≡ put a n part bytes
put-from_tail a n bytes part new fits is =
    let gone : drop (length bytes - a) (drop a bytes) ≡ [] = drop_all (length bytes - a) (drop a bytes) (omega (arith, length-drop a bytes)) in
    let whole : mid_of a (length bytes - a) bytes ≡ drop a bytes = take_all (length bytes - a) (drop a bytes) (omega (arith, length-drop a bytes)) in
    let rest : new ++ drop (length bytes - a) (drop a bytes) ≡ part ++ drop (a + n) bytes = ap (λ (t : List ℕ). new ++ t) gone ∙ append-nil new ∙ is ∙ ap (λ (t : List ℕ). part ++ drop n t) whole ∙ ap (λ (t : List ℕ). part ++ t) (drop-drop n a bytes) in
    ap (λ (t : List ℕ). take a bytes ++ t) rest
