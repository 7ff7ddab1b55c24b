-- What the program may be asked for.
use Rattle.std.specs.Prelude.{◌≤◌, ℕ, Bool, true, false}
use Rattle.limits.specs.declared.TheConstants.{WORKERS}
use Rattle.std.specs.Prelude.{Option, IfSome}
use Rattle.command_line.specs.declared.job.Job.{Job}
use Rattle.command_line.specs.declared.job.Job.TheVariants.{Run, Outcomes, History, Check}
use Rattle.command_line.specs.declared.job.Look.{Look}
use Rattle.command_line.specs.declared.job.Look.TheVariants.{Lines, Lanes, Mermaid, Json}

-- a board has 1 to 64 workers, and each waiting line is tried at least once
abbrev pub IsRunWithin : ℕ → ℕ → Option ℕ → Type 0
IsRunWithin workers turns times = ((1 ≤ workers) × (workers ≤ WORKERS)) × (1 ≤ turns) × IfSome times (λ n. 1 ≤ n)

-- and a search meets at least one state
abbrev pub IsWithin : Job → Type 0
IsWithin (Run workers turns times json) = IsRunWithin workers turns times
IsWithin (Outcomes stats explain limit progress json) = 1 ≤ limit
IsWithin (History look limit progress) = 1 ≤ limit
IsWithin (Check limit progress json) = 1 ≤ limit

-- how a history is shown, by the three flags: the first of them that is given
abbrev pub look_by : Bool → Bool → Bool → Look
look_by true mermaid lanes = Json
look_by false true lanes = Mermaid
look_by false false true = Lanes
look_by false false false = Lines
