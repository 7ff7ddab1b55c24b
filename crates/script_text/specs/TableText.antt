-- The text of a table: one line for each entry of the script, in order.
use Rattle.std.specs.Prelude.{◌≡◌, ℕ, ◌+◌, Bool, true, false, List, [], ◌∷◌, ◌++◌, length, ℤ, map}
use Rattle.std.specs.Global.{Vec}
use Rattle.std.specs.String.{string_bytes}
use Rattle.entry.specs.declared.op.Op.{Op}
use Rattle.entry.specs.declared.op.Op.TheVariants.{Read}
use Rattle.script.specs.declared.named.Named.{Named}
use Rattle.text.specs.Line.{IsLine, line_text}
use Rattle.script_text.specs.declared.fault.Fault.TheVariants.{BadTable}
use Rattle.script_text.specs.declared.fault.ScriptFault.{ScriptFault}
use Rattle.script_text.specs.declared.fault.ScriptFault.TheVariants.{Line, Memory}

-- whether an entry is a READ
abbrev pub is_read : Op → Bool
is_read (Read fd offset len) = true
is_read _ = false

-- the replies and data of a table, without where they lie in memory
abbrev pub shown_lines : List (ℤ × Vec ℕ) → List (ℤ × List ℕ)
shown_lines lines = map (λ line. (line.0, line.1.items)) lines

abbrev pub table_text : List Named → List (ℤ × List ℕ) → List ℕ
table_text [] lines = []
table_text (entry ∷ entries) [] = []
table_text (entry ∷ entries) (line ∷ lines) = line_text (string_bytes entry.label) line.0 line.1 ++ table_text entries lines

-- a line for each entry, each as that entry can have it
abbrev pub AreLines : List Named → List (ℤ × List ℕ) → Type 0
AreLines [] [] = Unit {0}
AreLines [] (line ∷ lines) = ⊥
AreLines (entry ∷ entries) [] = ⊥
AreLines (entry ∷ entries) (line ∷ lines) = IsLine (is_read entry.sqe.op) line.0 line.1 × AreLines entries lines

-- the bytes are the text of these lines
pub record IsTableText (entries : List Named) (lines : List (ℤ × List ℕ)) (bytes : List ℕ) : Type 0 where
  pub are_lines : AreLines entries lines
  pub text : bytes ≡ table_text entries lines

-- the bytes begin with no line of the entry
abbrev pub NoLine : Named → List ℕ → Type 0
NoLine entry bytes = (reply : ℤ) (shown rest : List ℕ) → IsLine (is_read entry.sqe.op) reply shown
    → bytes ≡ line_text (string_bytes entry.label) reply shown ++ rest → ⊥

-- the bytes don't begin with what has to stand there for these entries: a line of the first, or nothing where none is left
abbrev pub Differs : List Named → List ℕ → Type 0
Differs [] bytes = bytes ≡ [] → ⊥
Differs (entry ∷ entries) bytes = NoLine entry bytes

-- the first line of the bytes that differs is the n-th, counted from 1: before it stand the lines of the first entries, and no line
-- of the next entry follows
pub record IsBadLine (entries : List Named) (bytes : List ℕ) (n : ℕ) : Type 0 where
  pub first : List Named
  pub left : List Named
  pub lines : List (ℤ × List ℕ)
  pub rest : List ℕ
  pub entries_are : entries ≡ first ++ left
  pub are_lines : AreLines first lines
  pub text : bytes ≡ table_text first lines ++ rest
  pub differs : Differs left rest
  pub number : n ≡ length lines + 1

-- what may be answered in place of a table
abbrev pub IsTableFault : List Named → List ℕ → ScriptFault → Type 0
IsTableFault entries bytes (Line line fault) = (fault ≡ BadTable) × IsBadLine entries bytes line
IsTableFault entries bytes Memory = Unit {0}
