-- How a command ends: with an answer, or with a problem that is told.
use Rattle.std.specs.Prelude.{◌≡◌, ◌⊎◌, ℕ, true, List, Option, Some, None}
use Rattle.std.specs.Io.KnownBytes.{Appends, Keeps}
use Rattle.script.specs.declared.script.Script.{Script}
use Rattle.explore.specs.Search.{HasStates}
use Rattle.commands.specs.Printed.{AppendsSome, Reads}
use Rattle.commands.specs.Status.{status_of}
use Rattle.commands.specs.Told.{line_of, PutsCounts}
use Rattle.commands.specs.declared.told.Stats.{Stats}
use Rattle.commands.specs.declared.problem.Problem.{Problem}
use Rattle.commands.specs.declared.problem.Problem.TheVariants.{Output}
use Rattle.command_line.specs.declared.job.Job.{Job}
use Rattle.command_line.specs.declared.job.Job.TheVariants.{Outcomes}
use Rattle.commands.specs.Answers.{PrintsOf}
use Rattle.commands.specs.Given.{AreRead, Known}
use Rattle.commands.specs.Progress.{is_observed, SaysOf}
use Rattle.commands.specs.Reasons.{Explains}

-- the statistics of a search over the script, where they are asked for
abbrev pub CountsFor : Job → Script → Option Stats → Type 0
CountsFor (Outcomes true explain limit progress json) c stats = (counts : Stats) × (stats ≡ Some counts) × HasStates c counts.states
CountsFor _ c stats = stats ≡ None

-- what a job answers to what was read
pub record IsAnswer (job : Job) (script : Option (List ℕ)) (tables : List Known) (status : ℕ) (text : List ℕ) (stats : Option Stats) : Type 0 where
  pub says : Script
  pub reads : Reads script says
  pub given : List (List ℕ × List ℕ)
  pub are_read : AreRead tables given
  pub prints : PrintsOf job says given status text
  pub counts : CountsFor job says stats

-- just an answer went to standard output, with its status; and to standard error how far its searches were and its statistics, if they
-- are asked for, or a beginning
pub record HasAnswered (job : Job) (script : Option (List ℕ)) (tables : List Known) (out-old out-new err-old err-new : Option (List ℕ)) (status : ℕ) : Type 0 where
  pub text : List ℕ
  pub stats : Option Stats
  pub is_answer : IsAnswer job script tables status text stats
  pub went : Appends out-old out-new text
  pub err-said : Option (List ℕ)
  pub said : SaysOf (is_observed job) script err-old err-said
  pub told : PutsCounts stats err-said err-new

-- a beginning of an answer went out, or all of it, and the writing failed
pub record HasBegun (job : Job) (script : Option (List ℕ)) (tables : List Known) (out-old out-new : Option (List ℕ)) : Type 0 where
  pub text : List ℕ
  pub status : ℕ
  pub stats : Option Stats
  pub is_answer : IsAnswer job script tables status text stats
  pub went : AppendsSome out-old out-new text

-- what a problem says, and what has gone out by then
abbrev pub EndsBy : Job → Option (List ℕ) → List Known → Option (List ℕ) → Option (List ℕ) → Problem → Type 0
EndsBy job script tables old new Output = HasBegun job script tables old new
EndsBy job script tables old new p = Explains job script tables p × Keeps old new

-- the line of a problem went to standard error, or a beginning of it, and before it how far the searches were, if that is asked for;
-- and the status is the problem's
pub record HasTold (job : Job) (script : Option (List ℕ)) (tables : List Known) (out-old out-new err-old err-new : Option (List ℕ)) (status : ℕ) : Type 0 where
  pub problem : Problem
  pub status_is : status ≡ status_of problem
  pub ends : EndsBy job script tables out-old out-new problem
  pub err-said : Option (List ℕ)
  pub said : SaysOf (is_observed job) script err-old err-said
  pub line : AppendsSome err-said err-new (line_of problem)

abbrev pub Ends : Job → Option (List ℕ) → List Known → Option (List ℕ) → Option (List ℕ) → Option (List ℕ) → Option (List ℕ) → ℕ → Type 0
Ends job script tables out-old out-new err-old err-new status =
    HasAnswered job script tables out-old out-new err-old err-new status ⊎ HasTold job script tables out-old out-new err-old err-new status
