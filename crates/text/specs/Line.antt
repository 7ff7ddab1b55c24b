-- A line of a table: the label, the reply in decimal, and the data that a READ brought, in hexadecimal.
use Rattle.std.specs.Prelude.{◌≡◌, ℕ, Bool, true, false, List, [], ◌∷◌, ◌++◌, length, ℤ, pos, negsuc, ◌⊎◌, FitsSigned}
use Rattle.std.specs.Int.{w32}
use Rattle.std.specs.Fmt.{signed_decimal}
use Rattle.hex.specs.Hex.{encode_lower, IsBytes}

-- how many bytes of data a line shows: as many as the reply says after a READ, and none after another entry
abbrev pub shown_count : Bool → ℤ → ℕ
shown_count true (pos n) = n
shown_count true (negsuc n) = 0
shown_count false reply = 0

-- a space and the data, where there are any
abbrev pub data_text : List ℕ → List ℕ
data_text [] = []
data_text (b ∷ bs) = 32 ∷ encode_lower (b ∷ bs)

-- the whole line, with its line feed
abbrev pub line_text : List ℕ → ℤ → List ℕ → List ℕ
line_text label reply bytes = label ++ (32 ∷ (signed_decimal reply ++ (data_text bytes ++ (10 ∷ []))))

-- what a line can show of an entry: a reply of 32 bits, and as many bytes as belong after it
pub record IsLine (reads : Bool) (reply : ℤ) (bytes : List ℕ) : Type 0 where
  pub reply_fits : FitsSigned w32 reply
  pub are_bytes : IsBytes bytes
  pub count : length bytes ≡ shown_count reads reply

-- a space or a line feed, which no number has
abbrev pub IsCutByte : ℕ → Type 0
IsCutByte b = (b ≡ 32) ⊎ (b ≡ 10)

-- nothing, or what begins with a space or a line feed
abbrev pub IsCut : List ℕ → Type 0
IsCut [] = Unit {0}
IsCut (b ∷ bs) = IsCutByte b
