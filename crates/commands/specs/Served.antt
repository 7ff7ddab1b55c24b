-- How a command over files ends.
use Rattle.std.specs.Prelude.{◌≡◌, ◌⊎◌, ℕ, List, [], ◌∷◌, Option, codes}
use Rattle.std.specs.Io.KnownBytes.{Keeps}
use Rattle.commands.specs.Printed.{AppendsSome}
use Rattle.commands.specs.Status.{status_of}
use Rattle.commands.specs.Told.{line_of}
use Rattle.commands.specs.declared.problem.Problem.{Problem}
use Rattle.commands.specs.declared.problem.Problem.TheVariants.{Input}
use Rattle.command_line.specs.declared.job.Job.{Job}
use Rattle.commands.specs.Ends.{Ends}
use Rattle.commands.specs.Given.{Known}

-- the bytes of standard input where the name is `-`, and those of the file of that name where it is any other
abbrev pub IsScriptAt : {S F : Type 0} → (S → Type 0) → (S → Option (List ℕ)) → (List ℕ → F → Type 0) → (F → Option (List ℕ)) → List ℕ → Option (List ℕ) → Type 0
IsScriptAt {S} {F} stands standard opens file name bytes =
    ((name ≡ codes "-") × (x : S) × stands x × (bytes ≡ standard x)) ⊎ ((¬ (name ≡ codes "-")) × (x : F) × opens name x × (bytes ≡ file x))

-- these are the names, each with the bytes of the file of that name
abbrev pub AreTablesAt : {F : Type 0} → (List ℕ → F → Type 0) → (F → Option (List ℕ)) → List (List ℕ) → List Known → Type 0
AreTablesAt opens file [] [] = Unit {0}
AreTablesAt opens file [] (k ∷ ks) = ⊥
AreTablesAt opens file (n ∷ ns) [] = ⊥
AreTablesAt {F} opens file (n ∷ ns) (k ∷ ks) = ((k.0 ≡ n) × (x : F) × opens n x × (k.1 ≡ file x)) × AreTablesAt opens file ns ks

-- a file could not be opened, or memory ran out; nothing was read
pub record IsClosed (out-old out-new err-old err-new : Option (List ℕ)) (status : ℕ) : Type 0 where
  pub problem : Problem
  pub which : (problem ≡ Input) ⊎ (problem ≡ Problem.Memory)
  pub status_is : status ≡ status_of problem
  pub kept : Keeps out-old out-new
  pub line : AppendsSome err-old err-new (line_of problem)

-- the command ended over the script and the tables of these names
pub record IsOpened {S F : Type 0} (stands : S → Type 0) (standard : S → Option (List ℕ)) (opens : List ℕ → F → Type 0) (file : F → Option (List ℕ)) (job : Job) (name : List ℕ) (names : List (List ℕ)) (out-old out-new err-old err-new : Option (List ℕ)) (status : ℕ) : Type 0 where
  pub script : Option (List ℕ)
  pub tables : List Known
  pub script_is : IsScriptAt stands standard opens file name script
  pub tables_are : AreTablesAt opens file names tables
  pub ends : Ends job script tables out-old out-new err-old err-new status
