-- Where a text is cut at its first space or line feed.
use Rattle.std.proofs.lemmas.Str.Parse.{digit_at}
use Rattle.text.proofs.Common.{FitsSigned, IsCut, IsCutByte, IsInRange, List, [], arith, data_text, decimal, decimal_is_IsNumeral, inl, inr, length, negsuc, pos, refl, signed_decimal, slice_index, suc, w32, zero, ℕ, ℤ, ◌++◌, ◌<◌, ◌^◌, ◌∷◌, ◌≡◌}

abbrev pub IsUncut : List ℕ → Type 0
IsUncut word = (k : ℕ) → k < length word → IsCutByte (slice_index word k) → ⊥

IsUncut-rest : (b : ℕ) (bs : List ℕ) → IsUncut (b ∷ bs) → IsUncut bs
IsUncut-rest b bs h k lt = h (suc k) (omega (arith, lt))

-- there is one word up to the first cut, and one rest
pub cut_once : (v w x y : List ℕ) → IsUncut v → IsUncut w → IsCut x → IsCut y → v ++ x ≡ w ++ y → (v ≡ w) × (x ≡ y)
cut_once [] [] x y hv hw hx hy e = (refl, e)
cut_once [] (b ∷ bs) [] y hv hw hx hy e = absurd cc
cut_once [] (b ∷ bs) (c ∷ cs) y hv hw hx hy e = let same : c ≡ b = cc in absurd (hw 0 (omega arith) (rw (← same) hx))
cut_once (a ∷ vs) [] x [] hv hw hx hy e = absurd cc
cut_once (a ∷ vs) [] x (c ∷ cs) hv hw hx hy e = let same : a ≡ c = cc in absurd (hv 0 (omega arith) (rw same hy))
cut_once (a ∷ vs) (b ∷ bs) x y hv hw hx hy e =
    let others = cut_once vs bs x y (IsUncut-rest a vs hv) (IsUncut-rest b bs hw) hx hy cc in
    let heads : a ≡ b = cc in
    (rw (heads, others.0) refl, others.1)

no_digit : (b : ℕ) → IsInRange 48 57 b → IsCutByte b → ⊥
no_digit b h (inl e) = omega (arith, h.0, e)
no_digit b h (inr e) = omega (arith, h.0, e)

IsUncut-decimal : (n : ℕ) → n < 2 ^ 64 → IsUncut (decimal n)
IsUncut-decimal n lt k in_word = no_digit (slice_index (decimal n) k) (digit_at (decimal n) k (decimal_is_IsNumeral n lt).0.1 in_word)

IsUncut-minus : (word : List ℕ) → IsUncut word → IsUncut (45 ∷ word)
IsUncut-minus word h zero lt (inl e) = omega (arith, e)
IsUncut-minus word h zero lt (inr e) = omega (arith, e)
IsUncut-minus word h (suc k) lt cut = h k (omega (arith, lt)) cut

pub IsUncut-signed : (z : ℤ) → FitsSigned w32 z → IsUncut (signed_decimal z)
IsUncut-signed (pos n) h = IsUncut-decimal n (omega (arith, h))
IsUncut-signed (negsuc n) h = IsUncut-minus (decimal (suc n)) (IsUncut-decimal (suc n) (omega (arith, h)))

pub IsCut-data : (bytes rest : List ℕ) → IsCut (data_text bytes ++ (10 ∷ rest))
IsCut-data [] rest = inr refl
IsCut-data (b ∷ bs) rest = inl refl
