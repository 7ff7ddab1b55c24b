-- Plain texts of explained outcomes, of many runs, and of verdicts.
use Rattle.std.specs.Prelude.{ℕ, ℤ, Bool, true, false, List, [], ◌∷◌, ◌++◌, length, codes, decimal}
use Rattle.history.specs.declared.event.Event.{Event}
use Rattle.script.specs.declared.script.Script.{Script}
use Rattle.script_text.specs.{history_text, table_text}

-- a table and a history that leads to it, each followed by an empty line
abbrev pub explained_lines : Script → List (List (ℤ × List ℕ) × List Event) → List ℕ
explained_lines c [] = []
explained_lines c (x ∷ xs) = (table_text c.entries.items x.0 ++ (codes "\n" ++ (history_text c x.1 ++ codes "\n"))) ++ explained_lines c xs

-- and how many tables they are
abbrev pub explained_text : Script → List (List (ℤ × List ℕ) × List Event) → List ℕ
explained_text c xs = explained_lines c xs ++ (codes "tables " ++ (decimal (length xs) ++ codes "\n"))

-- a table and how often it came, each followed by an empty line
abbrev pub counts_lines : Script → List (List (ℤ × List ℕ) × ℕ) → List ℕ
counts_lines c [] = []
counts_lines c (x ∷ xs) = (table_text c.entries.items x.0 ++ (codes "\ntimes " ++ (decimal x.1 ++ codes "\n\n"))) ++ counts_lines c xs

-- and how many runs there were
abbrev pub counts_text : Script → List (List (ℤ × List ℕ) × ℕ) → ℕ → List ℕ
counts_text c xs runs = counts_lines c xs ++ (codes "runs " ++ (decimal runs ++ codes "\n"))

abbrev pub verdict_word : Bool → List ℕ
verdict_word true = codes "yes"
verdict_word false = codes "no"

-- the name of each file, and whether its tables are the script's
abbrev pub verdict_lines : List (List ℕ × Bool) → List ℕ
verdict_lines [] = []
verdict_lines (x ∷ xs) = (x.0 ++ (codes ": " ++ (verdict_word x.1 ++ codes "\n"))) ++ verdict_lines xs
