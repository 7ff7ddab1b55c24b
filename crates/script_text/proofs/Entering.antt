-- An entry line taken in.
use Rattle.std.specs.Str.{IsUtf8}
use Rattle.std.proofs.lemmas.Str.{IsUtf8-from_ascii}
use Rattle.script_text.proofs.Common.{Bool, Entry, Keyword, Kind, List, Named, Option, Some, Stated, [], all_entered, and_parts, arith, batch_with, cond, entered, entered_line, entered_with, eqb-true, false, is_label, is_label_byte, is_letter, leb-true, length, length-map, list_all, lt-ltb, map_push, nat_le, nat_lt, or_cases, refl, slice_index, suc, true, zero, ℕ, ⊎_elim, ◌&&◌, ◌++◌, ◌+◌, ◌<◌, ◌==◌, ◌||◌, ◌∷◌, ◌≡◌}

-- ---- a label is ASCII

letter_small : (b : ℕ) → is_letter b ≡ true → b < 128
letter_small b e = let p = and_parts (nat_le 97 b) (nat_le b 122) e in let le = leb-true b 122 p.1 in omega (arith, le)

digit_small : (b : ℕ) → (nat_le 48 b && nat_le b 57) ≡ true → b < 128
digit_small b e = let p = and_parts (nat_le 48 b) (nat_le b 57) e in let le = leb-true b 57 p.1 in omega (arith, le)

byte_small : (b : ℕ) → is_label_byte b ≡ true → b < 128
byte_small b e = ⊎_elim
    (λ (h : (is_letter b || (nat_le 48 b && nat_le b 57)) ≡ true). ⊎_elim (letter_small b) (digit_small b) (or_cases (is_letter b) (nat_le 48 b && nat_le b 57) h))
    (λ (h : ((b == 95) || (b == 45)) ≡ true). ⊎_elim
    (λ (k : (b == 95) ≡ true). (let same = eqb-true b 95 k in omega (arith, same)))
    (λ (k : (b == 45) ≡ true). (let same = eqb-true b 45 k in omega (arith, same)))
    (or_cases (b == 95) (b == 45) h))
    (or_cases (is_letter b || (nat_le 48 b && nat_le b 57)) ((b == 95) || (b == 45)) e)

bytes_small : (bs : List ℕ) → list_all is_label_byte bs ≡ true → (i : ℕ) → slice_index bs i < 128
bytes_small [] e i = omega arith
bytes_small (b ∷ bs) e zero = byte_small b (and_parts (is_label_byte b) (list_all is_label_byte bs) e).0
bytes_small (b ∷ bs) e (suc i) = bytes_small bs (and_parts (is_label_byte b) (list_all is_label_byte bs) e).1 i

label_small : (bs : List ℕ) → is_label bs ≡ true → (i : ℕ) → slice_index bs i < 128
label_small [] e i = omega arith
label_small (b ∷ bs) e zero = letter_small b (and_parts (is_letter b) (nat_lt (length bs) 16) (and_parts (is_letter b && nat_lt (length bs) 16) (list_all is_label_byte bs) e).0).0
label_small (b ∷ bs) e (suc i) = bytes_small bs (and_parts (is_letter b && nat_lt (length bs) 16) (list_all is_label_byte bs) e).1 i

pub label_is_text : (bs : List ℕ) → is_label bs ≡ true → IsUtf8 bs
label_is_text bs e = IsUtf8-from_ascii bs (label_small bs e)

-- ---- the entry and its place

pub entries_more : (lines : List Stated) (kind : Kind) (words : List (List ℕ)) (given : Option Entry) (old new : List Named) (named : Named) → 1 < length words
    → new ≡ old ++ named ∷ [] → entered named ≡ entered_line lines kind words given (length old + 1)
    → all_entered new ≡ entered_with lines (Some (Keyword.Entry kind)) words given (all_entered old)
entries_more lines kind words given old new named lt is same =
    let many = length-map old entered in
    rw (is, lt-ltb 1 (length words) lt, map_push entered old named, same, many) refl

pub batch_more : (kind : Kind) (words : List (List ℕ)) (own : Bool) (place : ℕ) (batch : List ℕ) → 1 < length words
    → cond own (batch ++ place ∷ []) batch ≡ batch_with (Some (Keyword.Entry kind)) words own place batch
batch_more kind words true place batch lt = rw (lt-ltb 1 (length words) lt) refl
batch_more kind words false place batch lt = refl
