-- The hexadecimal text of bytes is read as those bytes.
use Rattle.std.proofs.Common.{IfSome}
use Rattle.std.specs.Global.{Vec}
use Rattle.std.specs.declared.alloc.AllocError.{AllocError}
use Rattle.hex.specs.declared.error.FromHexError.{FromHexError}
use Rattle.hex.specs.declared.error.FromHexError.TheVariants.{OutOfMemory}
use Rattle.hex.specs.Hex.{IsBytes, encode_lower, decode_of, lower_digits}
use Rattle.hex.proofs.HexLemmas.{decode_of-encode_lower, length-encode_with}
use Rattle.std.proofs.lemmas.List.{take_at, drop_at, take-append-drop, length-take}
use Rattle.text.proofs.Common.{Err, IfOk, IsSomeAnd, List, None, Ok, Option, Result, [], ap, arith, data_text, drop, inl, inr, length, length-append, refl, sym, take, ℕ, ◌*◌, ◌++◌, ◌+◌, ◌/◌, ◌∙◌, ◌∷◌, ◌≡◌, ◌≤◌, ◌⊎◌}

read_back : (digits bytes : List ℕ) → IsBytes bytes → digits ≡ encode_lower bytes → decode_of digits ≡ Ok bytes
read_back digits bytes are e = ap decode_of e ∙ decode_of-encode_lower bytes are

pub same_bytes : (digits read bytes : List ℕ) → IsBytes bytes → digits ≡ encode_lower bytes → decode_of digits ≡ Ok read → read ≡ bytes
same_bytes digits read bytes are e was = let back = read_back digits bytes are e in cc

-- digits that are refused, but for want of memory, write no bytes
abbrev pub ReadsOnly : List ℕ → Option (Vec ℕ) → Type 0
ReadsOnly digits o = (bytes : List ℕ) → IsBytes bytes → digits ≡ encode_lower bytes → IsSomeAnd o (λ v. v.items ≡ bytes)

abbrev pub Reads : List ℕ → Option (Vec ℕ) → Type 0
Reads digits o = IfSome o (λ v. IsBytes v.items × (digits ≡ encode_lower v.items))

pub unread_reads : (digits : List ℕ) (error : FromHexError) (r : Result (Option (Vec ℕ)) AllocError)
    → IfOk r (λ o. (o ≡ None) × (error ≡ OutOfMemory → ⊥)) → (error ≡ OutOfMemory) ⊎ (decode_of digits ≡ Err error)
    → IfOk r (Reads digits) × IfOk r (ReadsOnly digits)
unread_reads digits error (Err e) h refused = (tt, tt)
unread_reads digits error (Ok o) h (inl memory) = absurd (h.1 memory)
unread_reads digits error (Ok o) h (inr refused) =
    (rw h.0 tt, λ bytes are e. let back = read_back digits bytes are e in absurd cc)

-- the data after a line's reply, where there are any
pub data_text-some : (bytes : List ℕ) → (length bytes ≡ 0 → ⊥) → data_text bytes ≡ 32 ∷ encode_lower bytes
data_text-some [] some = absurd (some refl)
data_text-some (b ∷ bs) some = refl

-- after the space stand the digits, and then the rest
pub data_behind : (whole after bytes rest : List ℕ) (count : ℕ) → (count ≡ 0 → ⊥) → length bytes ≡ count
    → whole ≡ 32 ∷ after → whole ≡ data_text bytes ++ rest → after ≡ encode_lower bytes ++ rest
data_behind whole after bytes rest count some len e f =
    let text = data_text-some bytes (λ none. some (sym len ∙ none)) in
    let g : whole ≡ (32 ∷ encode_lower bytes) ++ rest = rw text at f in
    cc

pub data_length : (after bytes rest : List ℕ) → after ≡ encode_lower bytes ++ rest → 2 * length bytes ≤ length after
data_length after bytes rest e =
    let total : length after ≡ length (encode_lower bytes) + length rest = ap length e ∙ length-append (encode_lower bytes) rest in
    omega (arith, total, length-encode_with lower_digits bytes)

pub data_digits : (after bytes rest : List ℕ) (count : ℕ) → length bytes ≡ count → after ≡ encode_lower bytes ++ rest
    → (take (2 * count) after ≡ encode_lower bytes) × (drop (2 * count) after ≡ rest)
data_digits after bytes rest count len e =
    let long : length (encode_lower bytes) ≡ 2 * count = omega (arith, len, length-encode_with lower_digits bytes) in
    (rw e (take_at (encode_lower bytes) rest (2 * count) long), rw e (drop_at (encode_lower bytes) rest (2 * count) long))

pub data_found : (whole after digits bytes rest : List ℕ) (count : ℕ) → (count ≡ 0 → ⊥) → count ≤ length after / 2
    → whole ≡ 32 ∷ after → digits ≡ take (2 * count) after → rest ≡ drop (2 * count) after → digits ≡ encode_lower bytes
    → (length bytes ≡ count) × (whole ≡ data_text bytes ++ rest)
data_found whole after digits bytes rest count some room e f g h =
    let long : length digits ≡ 2 * count = ap length f ∙ omega (arith, length-take (2 * count) after) in
    let written : length digits ≡ 2 * length bytes = ap length h ∙ length-encode_with lower_digits bytes in
    let len : length bytes ≡ count = omega arith in
    let text = data_text-some bytes (λ none. some (sym len ∙ none)) in
    let parts : after ≡ encode_lower bytes ++ rest = sym (take-append-drop (2 * count) after) ∙ (rw (← f, ← g, h) refl) in
    (len, e ∙ ap (λ (x : List ℕ). 32 ∷ x) parts ∙ (rw text refl))
