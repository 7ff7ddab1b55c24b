-- The problems that end a command, and the statuses that the program ends with.
use Rattle.std.specs.Prelude.{ℕ, List, Option}
use Rattle.std.specs.String.{string_bytes}
use Rattle.script.specs.declared.script.Script.{Script}
use Rattle.script_text.specs.{HasFirstFault}
use Rattle.script_text.specs.declared.fault.Fault.{Fault}
use Rattle.script_text.specs.declared.fault.ScriptFault.{ScriptFault}
use Rattle.explore.specs.declared.error.ExploreError.{ExploreError}
use Rattle.explore.specs.declared.error.ExploreError.TheVariants.{TooMany}
use Rattle.script_run.specs.declared.fault.RunFault.{RunFault}
use Rattle.script_run.specs.declared.fault.RunFault.TheVariants.{Thread, Shared}
use Rattle.script_run.specs.Stuck.{IsStuck}
use Rattle.streams.specs.declared.fault.InputFault.{InputFault}
use Rattle.commands.specs.declared.problem.Problem.{Problem}
use Rattle.commands.specs.declared.problem.Problem.TheVariants.{Input, Stuck, Line, Workers, TooManyStates}
use Rattle.commands.specs.Printed.{AreAll}

-- ---- statuses

-- 3 for a line that ran out of turns, 2 for a fault of the script, 1 for any other
abbrev pub status_of : Problem → ℕ
status_of (Stuck label) = 3
status_of (Line fault) = 2
status_of _ = 1

-- ---- which problem each fault is

-- what bytes that can't be read mean
abbrev pub of_input : InputFault → Problem
of_input (InputFault.Input error) = Input
of_input InputFault.Memory = Problem.Memory

-- what a script or a table that can't be read means
abbrev pub of_script : ScriptFault → Problem
of_script ScriptFault.Memory = Problem.Memory
of_script (ScriptFault.Line line fault) = Line (ScriptFault.Line line fault)

-- what a search without an answer means
abbrev pub of_search : ExploreError → Problem
of_search TooMany = TooManyStates
of_search ExploreError.Memory = Problem.Memory

-- what a run without a table means: a thread that is refused is want of memory
abbrev pub of_run : RunFault → Problem
of_run (RunFault.Stuck label) = Stuck label
of_run RunFault.Memory = Problem.Memory
of_run Thread = Problem.Memory
of_run RunFault.Workers = Workers
of_run Shared = Problem.Shared

-- ---- what a problem says of what was read

-- the first fault of the least line of the script that has one
pub record IsScriptFault (known : Option (List ℕ)) (line : ℕ) (fault : Fault) : Type 0 where
  pub bytes : List ℕ
  pub all : AreAll known bytes
  pub is_first : HasFirstFault bytes line fault

-- want of memory alone
abbrev pub IsOfMemory : Problem → Type 0
IsOfMemory Problem.Memory = Unit {0}
IsOfMemory _ = ⊥

-- a problem of a run of this script
abbrev pub IsOfRun : Script → ℕ → ℕ → Problem → Type 0
IsOfRun c workers turns (Stuck label) = IsStuck c workers turns (string_bytes label)
IsOfRun c workers turns Workers = Unit {0}
IsOfRun c workers turns Problem.Shared = Unit {0}
IsOfRun c workers turns Problem.Memory = Unit {0}
IsOfRun c workers turns _ = ⊥
