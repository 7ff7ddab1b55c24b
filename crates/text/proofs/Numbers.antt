-- The decimal text of a number is read as that number.
use Rattle.std.proofs.Common.{decimal}
use Rattle.std.specs.Str.{IsUtf8}
use Rattle.std.proofs.lemmas.Str.{IsUtf8-from_ascii}
use Rattle.std.proofs.lemmas.Int.{to_z-of_z}
use lib.Signed.{mag}
use Rattle.std.specs.Str.Parse.{digits_value}
use Rattle.std.proofs.lemmas.Bool.{and_parts, lt-ltb}
use borrow.Author.Tests.{ltb-true}
use lib.Pointwise.{bytes_decides, pointwise}
use Rattle.text.specs.Number.{number_in}
use Rattle.text.proofs.Common.{Bool, FitsSigned, IfSome, IsAscii-decimal, IsAscii-signed, List, None, Ok, Option, Result, Some, arith, decimal_is_IsNumeral, false, nat_eq, nat_lt, negsuc, of_z, pos, refl, signed_decimal, sym, to_z, true, w32, ℕ, ℤ, ◌&&◌, ◌<◌, ◌^◌, ◌≡◌}

pub mag_small : (z : ℤ) → FitsSigned w32 z → mag z < 2 ^ 63
mag_small (pos n) h = omega (arith, h)
mag_small (negsuc n) h = omega (arith, h)

pub decimal_is_text : (n : ℕ) (word : List ℕ) → n < 2 ^ 64 → word ≡ decimal n → IsUtf8 word
decimal_is_text n word lt e = rw e (IsUtf8-from_ascii (decimal n) (IsAscii-decimal n lt))

pub signed_is_text : (z : ℤ) (word : List ℕ) → FitsSigned w32 z → word ≡ signed_decimal z → IsUtf8 word
signed_is_text z word h e = rw e (IsUtf8-from_ascii (signed_decimal z) (IsAscii-signed z (mag_small z h)))

pub true_and_false : {A : Type 0} {b : Bool} → b ≡ true → b ≡ false → A
true_and_false p q = absurd cc

abbrev pub ok_at : (A E : Type 0) → A → Result A E
ok_at A E x = Ok x

pub ok_is : {A E : Type 0} {x y : A} → ok_at A E x ≡ ok_at A E y → x ≡ y
ok_is e = cc

abbrev pub some_at : (A : Type 0) → A → Option A
some_at A x = Some x

pub some_is : {A : Type 0} {x y : A} → some_at A x ≡ some_at A y → x ≡ y
some_is e = cc

-- a value of 32 bits that is read back is itself
pub kept_reply : (x z : ℤ) → FitsSigned w32 z → x ≡ z → to_z w32 (of_z w32 x) ≡ z
kept_reply x z fits e = rw e (to_z-of_z w32 z fits)

abbrev none_at : Option ℕ
none_at = None

-- the number of a decimal text
pub number_in-decimal : (n : ℕ) (word : List ℕ) → n < 2 ^ 64 → word ≡ decimal n → number_in word ≡ Some n
unfolding number_in
number_in-decimal n word lt e =
    let v : digits_value 10 (decimal n) ≡ n = (decimal_is_IsNumeral n lt).1 in
    let same : pointwise nat_eq (decimal n) (decimal n) ≡ true = (bytes_decides (decimal n) (decimal n)).1 refl in
    rw (e, v, same, lt-ltb n 18446744073709551616 lt) refl

number_in-cases : (word : List ℕ) (b : Bool) → (pointwise nat_eq word (decimal (digits_value 10 word)) && nat_lt (digits_value 10 word) 18446744073709551616) ≡ b
    → ((n : ℕ) → n < 2 ^ 64 → word ≡ decimal n → ⊥) → number_in word ≡ None
unfolding number_in
number_in-cases word false e none = rw e refl
number_in-cases word true e none =
    let both = and_parts (pointwise nat_eq word (decimal (digits_value 10 word))) (nat_lt (digits_value 10 word) 18446744073709551616) e in
    absurd (none (digits_value 10 word) (ltb-true (digits_value 10 word) 18446744073709551616 both.1) ((bytes_decides word (decimal (digits_value 10 word))).0 both.0))

pub number_in-none : (word : List ℕ) → ((n : ℕ) → n < 2 ^ 64 → word ≡ decimal n → ⊥) → number_in word ≡ None
number_in-none word none = number_in-cases word _ refl none

none_is_some : (n : ℕ) → none_at ≡ Some n → ⊥
none_is_some n e = cc

pub value_from : (word : List ℕ) (r : Option ℕ) → IfSome r (λ n. (word ≡ decimal n) × (n < 2 ^ 64))
    → ((n : ℕ) → n < 2 ^ 64 → word ≡ decimal n → r ≡ Some n) → r ≡ number_in word
value_from word (Some n) found only = sym (number_in-decimal n word found.1 found.0)
value_from word None found only = sym (number_in-none word (λ n lt e. none_is_some n (only n lt e)))
