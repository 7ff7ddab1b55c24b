-- What is told of how far a search is.
use Rattle.std.specs.Prelude.{◌⊎◌, ℕ, zero, suc, Bool, true, false, List, Option}
use Rattle.std.specs.Io.KnownBytes.{Keeps}
use Rattle.script.specs.declared.script.Script.{Script}
use Rattle.explore.specs.Search.{HasStates}
use Rattle.commands.specs.Printed.{AppendsSome, Reads}
use Rattle.commands.specs.Told.{states_line}
use Rattle.command_line.specs.declared.job.Job.{Job}
use Rattle.command_line.specs.declared.job.Job.TheVariants.{Run, Outcomes, History, Check}

-- `--progress` is given
abbrev pub is_observed : Job → Bool
is_observed (Run workers turns times json) = false
is_observed (Outcomes stats explain limit progress json) = progress
is_observed (History look limit progress) = progress
is_observed (Check limit progress json) = progress

-- this many lines went to the end, or a beginning of each, each with a number of states that the script has, and nothing else
abbrev pub SaysBy : Script → ℕ → Option (List ℕ) → Option (List ℕ) → Type 0
SaysBy c zero old new = Keeps old new
SaysBy c (suc n) old new = (before : Option (List ℕ)) × (states : ℕ) × SaysBy c n old before × HasStates c states × AppendsSome before new (states_line states)

-- any number of them
abbrev pub Says : Script → Option (List ℕ) → Option (List ℕ) → Type 0
Says c old new = (n : ℕ) × SaysBy c n old new

-- where they are asked for
abbrev pub SaysFor : Bool → Script → Option (List ℕ) → Option (List ℕ) → Type 0
SaysFor true c old new = Says c old new
SaysFor false c old new = Keeps old new

-- those of searches over the script that was read
pub record HasSaid (script old new : Option (List ℕ)) : Type 0 where
  pub says : Script
  pub reads : Reads script says
  pub lines : Says says old new

-- where they are asked for; nothing where there was no search
abbrev pub SaysOf : Bool → Option (List ℕ) → Option (List ℕ) → Option (List ℕ) → Type 0
SaysOf true script old new = HasSaid script old new ⊎ Keeps old new
SaysOf false script old new = Keeps old new
