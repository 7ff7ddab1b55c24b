-- The entry of each entry line, and what a `ring` line declares.
use Rattle.std.specs.Prelude.{◌≡◌, ℕ, Bool, true, false, List, Option, Some, None, length, nat_lt, if◌then◌else◌}
use Rattle.entry.specs.Entry.{Entry}
use Rattle.entry.specs.declared.op.Op.{Op}
use Rattle.limits.specs.declared.TheConstants.{POSTS}
use Rattle.prep.specs.Built.{plain}
use Rattle.text.specs.Number.{number_in}
use Rattle.script_text.specs.declared.keyword.Kind.{Kind}
use Rattle.script_text.specs.declared.keyword.Keyword.{Keyword}
use Rattle.script_text.specs.EntryLines.{IsRawEntry, Stated, buffer_in, entry_of, raw_buffer}
use Rattle.script_text.specs.Keywords.{is_raw}
use Rattle.script_text.specs.Noted.{number_or}
use Rattle.script_text.specs.TextWords.{word_at}

abbrev pub is_raw_line : Option Keyword → Bool
is_raw_line (Some (Keyword.Entry kind)) = is_raw kind
is_raw_line _ = false

abbrev pub IsGivenIf : Bool → List (List ℕ) → Option Entry → Type 0
IsGivenIf true words given = IsRawEntry (word_at words 2) given
IsGivenIf false words given = given ≡ None

-- the entry that the digits of a line give: of a `raw` line what they write, and of another line none
abbrev pub IsGiven : Option Keyword → List (List ℕ) → Option Entry → Type 0
IsGiven keyword words given = IsGivenIf (is_raw_line keyword) words given

abbrev pub raw_or_nop : Option Entry → Entry
raw_or_nop None = plain Op.Nop
raw_or_nop (Some e) = e

-- the entry of a line, the file's number-th
abbrev pub line_entry : List Stated → Kind → List (List ℕ) → ℕ → Option Entry → Entry
line_entry lines kind words number given = if is_raw kind then raw_or_nop given else entry_of lines kind words number

-- its buffer
abbrev pub line_buffer : Kind → List (List ℕ) → Entry → List ℕ
line_buffer kind words e = if is_raw kind then raw_buffer e else buffer_in kind words

-- the size of a completion ring, where one is given
abbrev pub posts_in : List (List ℕ) → Option ℕ
posts_in words = if nat_lt 2 (length words) then Some (number_or (number_in (word_at words 2)) 1 POSTS) else None
