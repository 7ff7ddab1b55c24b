-- What was read, and the text of tables that goes out.
use Rattle.std.specs.Prelude.{◌≡◌, ◌≤◌, ℕ, ℤ, List, [], ◌∷◌, ◌++◌, length, take, codes, decimal, Option, IfSome}
use Rattle.std.specs.Io.KnownBytes.{Appends}
use Rattle.script.specs.declared.script.Script.{Script}
use Rattle.script_text.specs.{SaysScript, table_text}

-- the bytes are all that a reader had, where that is known
abbrev pub AreAll : Option (List ℕ) → List ℕ → Type 0
AreAll known bytes = IfSome known (λ there. bytes ≡ there)

-- what a reader had is the text of this script
pub record Reads (known : Option (List ℕ)) (c : Script) : Type 0 where
  pub bytes : List ℕ
  pub all : AreAll known bytes
  pub says : SaysScript bytes c

-- the tables, each followed by an empty line
abbrev pub tables_text : Script → List (List (ℤ × List ℕ)) → List ℕ
tables_text c [] = []
tables_text c (rows ∷ others) = (table_text c.entries.items rows ++ codes "\n") ++ tables_text c others

-- and how many they are
abbrev pub counted_text : Script → List (List (ℤ × List ℕ)) → List ℕ
counted_text c tables = tables_text c tables ++ (codes "tables " ++ (decimal (length tables) ++ codes "\n"))

-- a beginning of these bytes, or all of them, went to the writer's end, and nothing else
abbrev pub AppendsSome : Option (List ℕ) → Option (List ℕ) → List ℕ → Type 0
AppendsSome old new bytes = (count : ℕ) × (count ≤ length bytes) × Appends old new (take count bytes)
