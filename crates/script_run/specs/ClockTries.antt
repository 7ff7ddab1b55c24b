-- How often the clock's line was tried, and what comes of a clock.
use Rattle.std.specs.Prelude.{◌≡◌, ℕ, zero, suc, ◌<◌, ◌≤◌, ◌||◌, ◌++◌, max, length, Bool, true, false, List, Option, Some, slice_get}
use Rattle.history.specs.declared.event.Event.{Event}
use Rattle.history.specs.History.{phase}
use Rattle.script.specs.Tables.{is_armed, is_replied}
use Rattle.script_run.specs.declared.clock.ClockLine.{ClockLine}
use Rattle.script_run.specs.declared.clock.ClockLine.TheVariants.{Wait, Armed}
use Rattle.script_run.specs.declared.clock.Ended.{Ended}
use Rattle.script_run.specs.declared.clock.Ended.TheVariants.{Through, Stuck, Other}
use Rattle.script_run.specs.ClockLines.{IsAlong}

-- where this has happened, what the line waits for is not so
abbrev pub IsUndone : Option ClockLine → List Event → Type 0
IsUndone (Some (Wait r p)) h = is_replied (phase h r) ≡ false
IsUndone (Some (Armed r p)) h = (is_armed (phase h r) || is_replied (phase h r)) ≡ false
IsUndone _ h = ⊥

-- it was tried so often, one time after another, and not done
abbrev pub WasTried : Option ClockLine → ℕ → List Event → Type 0
WasTried line zero h = Unit {0}
WasTried line (suc n) h = (later : List Event) × (seen : List Event) × (h ≡ later ++ seen) × IsUndone line seen × WasTried line n seen

-- where this has happened, a clock that tries each line at most so often, but once at least, stands before its next line, which it tried so often; and is stuck there once these are all tries
pub record IsAtLine (lines : List ClockLine) (next tries most : ℕ) (is_stuck : Bool) (h : List Event) : Type 0 where
  pub along : IsAlong lines next h
  pub tried : WasTried (slice_get lines next) tries h
  pub few : is_stuck ≡ false → tries < max most 1
  pub all : is_stuck ≡ true → tries ≡ max most 1

-- the entry that the line waits for has this place
abbrev pub IsOfPlace : ClockLine → ℕ → Type 0
IsOfPlace (Wait r q) p = q ≡ p
IsOfPlace (Armed r q) p = q ≡ p
IsOfPlace _ p = ⊥

-- what came of a clock with its own lines, that was to carry these out
abbrev pub EndsAs : List ClockLine → ℕ → ℕ → Bool → List ClockLine → ℕ → Ended → Type 0
EndsAs own next most is_stuck lines turns Through = (own ≡ lines) × (length lines ≤ next)
EndsAs own next most is_stuck lines turns (Stuck p) = (own ≡ lines) × (most ≡ turns) × (is_stuck ≡ true) × ((l : ClockLine) × (slice_get lines next ≡ Some l) × IsOfPlace l p)
EndsAs own next most is_stuck lines turns Other = Unit {0}
