-- Why a command has no answer.
use Rattle.std.specs.Prelude.{◌⊎◌, ℕ, List, Option}
use Rattle.script.specs.declared.script.Script.{Script}
use Rattle.script_text.specs.TableText.{IsTableFault}
use Rattle.script_text.specs.declared.fault.ScriptFault.{ScriptFault}
use Rattle.explore.specs.{Among, HasMore}
use Rattle.checks.specs.TableFiles.{IsTablesFault}
use Rattle.commands.specs.Printed.{Reads}
use Rattle.commands.specs.Status.{IsOfRun, IsScriptFault}
use Rattle.commands.specs.declared.problem.Problem.{Problem}
use Rattle.commands.specs.declared.problem.Problem.TheVariants.{Input, Line, TooManyStates}
use Rattle.command_line.specs.declared.job.Job.{Job}
use Rattle.command_line.specs.declared.job.Job.TheVariants.{Run, Outcomes, History, Check}
use Rattle.commands.specs.Given.{AreRead, Known}

-- of a search that meets at most this many states: more were met, or memory ran out
abbrev pub IsOfLimit : Script → ℕ → Problem → Type 0
IsOfLimit c limit TooManyStates = HasMore c limit
IsOfLimit c limit Problem.Memory = Unit {0}
IsOfLimit c limit _ = ⊥

-- of the files that are given: one isn't tables
abbrev pub IsOfFiles : Script → List (List ℕ × List ℕ) → Problem → Type 0
IsOfFiles c given (Line fault) = (x : List ℕ × List ℕ) × Among x given × IsTablesFault c x.1 fault
IsOfFiles c given Problem.Memory = Unit {0}
IsOfFiles c given _ = ⊥

-- of these bytes: they aren't tables
abbrev pub IsOfFile : Script → List ℕ → Problem → Type 0
IsOfFile c bytes (Line fault) = IsTablesFault c bytes fault
IsOfFile c bytes Problem.Memory = Unit {0}
IsOfFile c bytes _ = ⊥

-- of these bytes: they aren't a table
abbrev pub IsOfBytes : Script → List ℕ → Problem → Type 0
IsOfBytes c bytes (Line fault) = IsTableFault c.entries.items bytes fault
IsOfBytes c bytes Problem.Memory = Unit {0}
IsOfBytes c bytes _ = ⊥

-- of the table that is given: it isn't one, or none is given
abbrev pub IsOfTable : Script → List (List ℕ × List ℕ) → Problem → Type 0
IsOfTable c given (Line fault) = (x : List ℕ × List ℕ) × Among x given × IsTableFault c.entries.items x.1 fault
IsOfTable c given Problem.Memory = Unit {0}
IsOfTable c given Input = Unit {0}
IsOfTable c given _ = ⊥

abbrev pub IsOfJob : Job → Script → List (List ℕ × List ℕ) → Problem → Type 0
IsOfJob (Run workers turns times json) c given p = IsOfRun c workers turns p
IsOfJob (Outcomes stats explain limit progress json) c given p = IsOfLimit c limit p
IsOfJob (History look limit progress) c given p = IsOfTable c given p ⊎ IsOfLimit c limit p
IsOfJob (Check limit progress json) c given p = IsOfFiles c given p ⊎ IsOfLimit c limit p

-- of the reading: it failed, memory ran out, or the script has this first fault
abbrev pub IsOfReading : Option (List ℕ) → Problem → Type 0
IsOfReading script Input = Unit {0}
IsOfReading script Problem.Memory = Unit {0}
IsOfReading script (Line (ScriptFault.Line line fault)) = IsScriptFault script line fault
IsOfReading script _ = ⊥

-- of what was read
pub record IsOfRead (job : Job) (script : Option (List ℕ)) (tables : List Known) (p : Problem) : Type 0 where
  pub says : Script
  pub reads : Reads script says
  pub given : List (List ℕ × List ℕ)
  pub are_read : AreRead tables given
  pub why : IsOfJob job says given p

abbrev pub Explains : Job → Option (List ℕ) → List Known → Problem → Type 0
Explains job script tables p = IsOfReading script p ⊎ IsOfRead job script tables p
