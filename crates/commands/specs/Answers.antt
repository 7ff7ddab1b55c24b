-- What each command prints of a script and of the tables that it is given, and with which status.
use Rattle.std.specs.Prelude.{◌≡◌, ◌↔◌, ◌⊎◌, ℕ, ℤ, Bool, true, false, if◌then◌else◌, List, [], ◌∷◌, length, map, codes, unwrap_or, Option, Some, None}
use Rattle.std.specs.List.{AllByRecursion, list_all}
use Rattle.history.specs.declared.event.Event.{Event}
use Rattle.script.specs.declared.script.Script.{Script}
use Rattle.script.specs.declared.table.Table.{Table}
use Rattle.script.specs.{AreInOrder, rows_of, IsTableOf}
use Rattle.script_text.specs.{history_text, table_text, IsTableText}
use Rattle.explore.specs.{Among, IsHistoryOf}
use Rattle.script_run.specs.RunRows.{HasRun}
use Rattle.serde_json.specs.Data.{null}
use Rattle.pictures.specs.{explained_data, history_data, json_text, listed, table_data, tables_data, counted_data, verdict_data, lanes_text, mermaid_text, explained_text, counts_text, verdict_lines}
use Rattle.checks.specs.{counts_of, IsVerdict}
use Rattle.commands.specs.Printed.{counted_text}
use Rattle.command_line.specs.declared.job.Job.{Job}
use Rattle.command_line.specs.declared.job.Job.TheVariants.{Run, Outcomes, History, Check}
use Rattle.command_line.specs.declared.job.Look.{Look}
use Rattle.command_line.specs.declared.job.Look.TheVariants.{Lines, Lanes, Mermaid, Json}

-- ---- runs

-- each is the table of a run with this many workers, and one of the script's
abbrev pub AreRuns : Script → ℕ → List Table → Type 0
AreRuns c workers runs = AllByRecursion (λ t. HasRun c workers t.lines.items × IsTableOf c (rows_of t)) runs

abbrev pub one_text : Bool → Script → List (List (ℤ × List ℕ)) → List ℕ
one_text json c [] = []
one_text true c (rows ∷ others) = json_text (table_data c rows)
one_text false c (rows ∷ others) = table_text c.entries.items rows

-- the table of one run, or the tables of many and how often each came
abbrev pub runs_text : Option ℕ → Bool → Script → List (List (ℤ × List ℕ)) → List ℕ
runs_text None json c runs = one_text json c runs
runs_text (Some n) true c runs = json_text (listed (map (counted_data c) (counts_of runs)))
runs_text (Some n) false c runs = counts_text c (counts_of runs) (length runs)

pub record IsRunsText (c : Script) (workers : ℕ) (times : Option ℕ) (json : Bool) (text : List ℕ) : Type 0 where
  pub runs : List Table
  pub are : AreRuns c workers runs
  pub many : length runs ≡ unwrap_or times 1
  pub text_is : text ≡ runs_text times json c (map rows_of runs)

-- ---- outcomes

-- these tables, each with a history that leads to it
pub record AreExplained (c : Script) (tables : List (List (ℤ × List ℕ))) (xs : List (List (ℤ × List ℕ) × List Event)) : Type 0 where
  pub tables_are : map (λ x. x.0) xs ≡ tables
  pub histories : AllByRecursion (λ x. IsHistoryOf c x.0 x.1) xs

abbrev pub IsTablesText : Bool → Bool → Script → List (List (ℤ × List ℕ)) → List ℕ → Type 0
IsTablesText false false c tables text = text ≡ counted_text c tables
IsTablesText false true c tables text = text ≡ json_text (tables_data c tables)
IsTablesText true false c tables text = (xs : List (List (ℤ × List ℕ) × List Event)) × AreExplained c tables xs × (text ≡ explained_text c xs)
IsTablesText true true c tables text = (xs : List (List (ℤ × List ℕ) × List Event)) × AreExplained c tables xs × (text ≡ json_text (listed (map (explained_data c) xs)))

-- just the tables of the script, each once and in order
pub record IsListText (c : Script) (explain json : Bool) (text : List ℕ) : Type 0 where
  pub tables : List (List (ℤ × List ℕ))
  pub all : (rows : List (ℤ × List ℕ)) → IsTableOf c rows ↔ Among rows tables
  pub order : AreInOrder tables
  pub text_is : IsTablesText explain json c tables text

-- ---- histories

abbrev pub look_text : Look → Script → List Event → List ℕ
look_text Lines c events = history_text c events
look_text Lanes c events = lanes_text c events
look_text Mermaid c events = mermaid_text c events
look_text Json c events = json_text (history_data c events)

abbrev pub none_text : Look → List ℕ
none_text Json = json_text null
none_text _ = codes "no history\n"

-- a history of the script with this table, shown so
pub record IsShown (look : Look) (c : Script) (rows : List (ℤ × List ℕ)) (text : List ℕ) : Type 0 where
  pub events : List Event
  pub is_history : IsHistoryOf c rows events
  pub text_is : text ≡ look_text look c events

-- a history with the table that these bytes are, or that there is none
pub record IsLookText (look : Look) (c : Script) (bytes text : List ℕ) : Type 0 where
  pub rows : List (ℤ × List ℕ)
  pub is_table : IsTableText c.entries.items rows bytes
  pub shown : IsShown look c rows text ⊎ ((¬ IsTableOf c rows) × (text ≡ none_text look))

-- the same, for the first table that is given
pub record IsLookFor (look : Look) (c : Script) (given : List (List ℕ × List ℕ)) (text : List ℕ) : Type 0 where
  pub first : List ℕ × List ℕ
  pub others : List (List ℕ × List ℕ)
  pub given_is : given ≡ first ∷ others
  pub look_is : IsLookText look c first.1 text

-- ---- checks

-- of each file its name, and whether its tables are the script's
abbrev pub AreVerdicts : Script → List (List ℕ × List ℕ) → List (List ℕ × Bool) → Type 0
AreVerdicts c [] [] = Unit {0}
AreVerdicts c [] (v ∷ vs) = ⊥
AreVerdicts c (g ∷ gs) [] = ⊥
AreVerdicts c (g ∷ gs) (v ∷ vs) = ((v.0 ≡ g.0) × IsVerdict c g.1 v.1) × AreVerdicts c gs vs

abbrev pub verdicts_text : Bool → List (List ℕ × Bool) → List ℕ
verdicts_text true verdicts = json_text (listed (map verdict_data verdicts))
verdicts_text false verdicts = verdict_lines verdicts

-- status 0 where all are, 3 where one isn't
abbrev pub verdicts_status : List (List ℕ × Bool) → ℕ
verdicts_status verdicts = if list_all (λ v. v.1) verdicts then 0 else 3

pub record IsCheckText (c : Script) (json : Bool) (given : List (List ℕ × List ℕ)) (status : ℕ) (text : List ℕ) : Type 0 where
  pub verdicts : List (List ℕ × Bool)
  pub are : AreVerdicts c given verdicts
  pub text_is : text ≡ verdicts_text json verdicts
  pub status_is : status ≡ verdicts_status verdicts

-- ---- what a job prints of a script and of the tables that it is given, and its status

abbrev pub PrintsOf : Job → Script → List (List ℕ × List ℕ) → ℕ → List ℕ → Type 0
PrintsOf (Run workers turns times json) c given status text = (status ≡ 0) × IsRunsText c workers times json text
PrintsOf (Outcomes stats explain limit progress json) c given status text = (status ≡ 0) × IsListText c explain json text
PrintsOf (History look limit progress) c given status text = (status ≡ 0) × IsLookFor look c given text
PrintsOf (Check limit progress json) c given status text = IsCheckText c json given status text
