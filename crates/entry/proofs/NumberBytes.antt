-- The bytes of the number that bytes are read as are these bytes.
use Rattle.std.proofs.Math.Nat.{div-div-eq-div-mul, pow-succ'}
use Rattle.byteorder.specs.Numbers.{little_from-cons}
use Rattle.entry.proofs.Common.{List, [], ap, arith, byte_at, bytes_low_first, drop, get_or, length, little_bytes, little_from, little_number, refl, suc, sym, zero, ℕ, ◌%◌, ◌*◌, ◌++◌, ◌+◌, ◌/◌, ◌<◌, ◌^◌, ◌∙◌, ◌∷◌, ◌≡◌, ◌≤◌}

-- every byte of the list is one
abbrev pub IsBytes : List ℕ → Type 0
IsBytes bytes = (i : ℕ) → get_or bytes i 0 < 256

byte_at-shift : (j x : ℕ) → byte_at (suc j) x ≡ byte_at j (x / 256)
byte_at-shift zero x = refl
byte_at-shift (suc j) x =
    ap (λ (y : ℕ). y % 256) (ap (λ (p : ℕ). x / p) (pow-succ' 256 (suc j)) ∙ sym (div-div-eq-div-mul x 256 (256 ^ suc j)))

bytes_low_first-shift : (n j x : ℕ) → bytes_low_first (suc j) n x ≡ bytes_low_first j n (x / 256)
bytes_low_first-shift zero j x = refl
bytes_low_first-shift (suc n) j x =
    let here = byte_at-shift j x in
    let rest = bytes_low_first-shift n (suc j) x in
    rw (here, rest) refl

-- the first n bytes are those of the number that they are read as
pub bytes_of-number : (n : ℕ) (xs : List ℕ) → n ≤ length xs → IsBytes xs → little_bytes n (little_number n xs) ++ drop n xs ≡ xs
bytes_of-number zero xs h b = refl
bytes_of-number (suc n) [] h b = absurd (omega arith)
bytes_of-number (suc n) (x ∷ xs) h b =
    let moved = little_from-cons 0 n x xs in
    let low : x < 256 = b 0 in
    let rest = bytes_of-number n xs (omega arith) (λ i. b (suc i)) in
    let number = little_from 0 n xs in
    let first : (x + 256 * number) % 256 ≡ x = omega arith in
    let later : (x + 256 * number) / 256 ≡ number = omega arith in
    let shift = bytes_low_first-shift n 0 (x + 256 * number) in
    rw (moved, first, shift, later, rest) refl
