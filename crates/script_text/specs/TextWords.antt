-- The lines of a text, and the words of a line.
use Rattle.std.specs.Prelude.{ℕ, ◌-◌, ◌==◌, ◌&&◌, List, [], ◌∷◌, IsTrue, Bool, false, Option, Some, None, not, nat_eq, nat_le, length, take, drop, map, if◌then◌else◌}
use denote.Bor.{Bor}
use Rattle.std.specs.List.{filter, list_all, slice_get, slice_split, starts_with}
use lib.Pointwise.{pointwise}

-- words or lines, without where they lie in memory
abbrev pub texts : List (Bor (List ℕ)) → List (List ℕ)
texts parts = map (λ part. part.now) parts

-- what is found, without where it lies in memory
abbrev pub now_of : {A : Type 0} → Option (Bor A) → Option A
now_of None = None
now_of (Some found) = Some found.now

-- the two are the same bytes
abbrev pub is_same : List ℕ → List ℕ → Bool
is_same xs ys = pointwise nat_eq xs ys

-- the text ends with a line feed
abbrev pub is_ended : List ℕ → Bool
is_ended bytes = is_same (drop (length bytes - 1) bytes) (10 ∷ [])

-- the text without the line feed that ends its last line, if one does
abbrev pub without_end : List ℕ → List ℕ
without_end bytes = if is_ended bytes then take (length bytes - 1) bytes else bytes

-- the lines of a text: what stands between its line feeds. The last line may end without one
unfoldable pub text_lines : List ℕ → List (List ℕ)
text_lines bytes = slice_split (λ b. b == 10) (without_end bytes)

-- the words of a line: what stands between its spaces and has a byte
unfoldable pub words_in : List ℕ → List (List ℕ)
words_in line = filter (λ word. not (length word == 0)) (slice_split (λ b. b == 32) line)

-- a line whose first word begins with `#`
abbrev pub is_comment : List (List ℕ) → Bool
is_comment [] = false
is_comment (first ∷ rest) = starts_with nat_eq first (35 ∷ [])

-- the words of a line that says something, and none of a line that is skipped
abbrev pub said : List ℕ → List (List ℕ)
said line = if is_comment (words_in line) then [] else words_in line

-- a byte that may stand in a line
abbrev pub is_plain_byte : ℕ → Bool
is_plain_byte b = nat_le 32 b && nat_le b 126

-- a line of such bytes
abbrev pub is_plain : List ℕ → Bool
is_plain line = list_all is_plain_byte line

abbrev pub IsPlain : List ℕ → Type 0
IsPlain line = IsTrue (is_plain line)

abbrev pub word_or_none : Option (List ℕ) → List ℕ
word_or_none None = []
word_or_none (Some word) = word

-- the word at a place of a line, the first at 0; no bytes where there is none
abbrev pub word_at : List (List ℕ) → ℕ → List ℕ
word_at words n = word_or_none (slice_get words n)
