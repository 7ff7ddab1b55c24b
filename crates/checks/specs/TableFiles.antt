-- Files of one table, or of several.
use Rattle.std.specs.Prelude.{◌≡◌, ◌⊎◌, ℕ, ℤ, ◌<◌, ◌+◌, ◌*◌, min, List, [], ◌∷◌, ◌++◌, length, codes, decimal}
use Rattle.script.specs.declared.script.Script.{Script}
use Rattle.script_text.specs.TableText.{table_text, AreLines, IsBadLine, IsTableText}
use Rattle.script_text.specs.declared.fault.Fault.TheVariants.{BadTable}
use Rattle.script_text.specs.declared.fault.ScriptFault.{ScriptFault}
use Rattle.script_text.specs.declared.fault.ScriptFault.TheVariants.{Line, Memory}

-- the tables, each followed by an empty line
abbrev pub tables_text : Script → List (List (ℤ × List ℕ)) → List ℕ
tables_text c [] = []
tables_text c (rows ∷ others) = (table_text c.entries.items rows ++ codes "\n") ++ tables_text c others

abbrev pub count_text : ℕ → List ℕ
count_text n = codes "tables " ++ (decimal n ++ codes "\n")

-- each is a table of the script's entries
abbrev pub AreTables : Script → List (List (ℤ × List ℕ)) → Type 0
AreTables c [] = Unit {0}
AreTables c (rows ∷ others) = AreLines c.entries.items rows × AreTables c others

-- several tables, each followed by an empty line; after them there may be their number, as `outcomes` prints it
pub record AreSeveral (c : Script) (tables : List (List (ℤ × List ℕ))) (bytes : List ℕ) : Type 0 where
  pub are : AreTables c tables
  pub some : 0 < length tables
  pub text : (bytes ≡ tables_text c tables) ⊎ (bytes ≡ tables_text c tables ++ count_text (length tables))

-- or one table alone
abbrev pub IsTablesText : Script → List (List (ℤ × List ℕ)) → List ℕ → Type 0
IsTablesText c tables bytes = ((rows : List (ℤ × List ℕ)) × (tables ≡ rows ∷ []) × IsTableText c.entries.items rows bytes) ⊎ AreSeveral c tables bytes

-- what may be answered in place of the table of a part, where this many tables stand before it: the number of a line that differs, or
-- of the line after a whole table that no empty line follows
pub record IsBadPart (c : Script) (part : List ℕ) (before n : ℕ) : Type 0 where
  pub line : ℕ
  pub differs : IsBadLine c.entries.items part line ⊎ ((line ≡ length c.entries.items + 1) × (rows : List (ℤ × List ℕ)) × IsTableText c.entries.items rows part)
  pub number : n ≡ min (before * (length c.entries.items + 1) + line) 18446744073709551615

abbrev pub IsPartFault : Script → List ℕ → ℕ → ScriptFault → Type 0
IsPartFault c part before (Line line fault) = (fault ≡ BadTable) × IsBadPart c part before line
IsPartFault c part before Memory = Unit {0}

-- the n-th line of the file differs from a table: it is in a part that stands after some tables, each with its empty line
pub record IsBadAmong (c : Script) (bytes : List ℕ) (n : ℕ) : Type 0 where
  pub tables : List (List (ℤ × List ℕ))
  pub part : List ℕ
  pub after : List ℕ
  pub are : AreTables c tables
  pub text : bytes ≡ tables_text c tables ++ (part ++ after)
  pub bad : IsBadPart c part (length tables) n

-- what may be answered in place of tables
abbrev pub IsTablesFault : Script → List ℕ → ScriptFault → Type 0
IsTablesFault c bytes (Line line fault) = (fault ≡ BadTable) × IsBadAmong c bytes line
IsTablesFault c bytes Memory = Unit {0}
