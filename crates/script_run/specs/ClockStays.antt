-- What does not set the clock leaves a script's clock where it is: a law of clocks, of which this is the proof.
use Rattle.std.specs.Prelude.{◌≡◌, ℕ, zero, suc, take, drop, Bool, List, ◌∷◌, Option, slice_get}
use Rattle.std.proofs.Common.{ap}
use Rattle.history.specs.declared.event.Event.{Event}
use Rattle.history.specs.Legal.{Setup, Legal}
use Rattle.history.specs.Ticked.{counts_tick}
use Rattle.script.specs.declared.script.Script.{Script}
use Rattle.script.proofs.CarriedLines.{timed_on}
use Rattle.script_run.specs.declared.clock.ClockLine.{ClockLine}
use Rattle.script_run.specs.ClockLines.{IsTimed, IsAlong}
use Rattle.script_run.specs.ClockTries.{WasTried, IsAtLine}

pub timed_stays : (c : Script) (lines : List ClockLine) (next : ℕ) (s : Setup) (e : Event) (h : List Event) → Legal s (e ∷ h) → counts_tick e ≡ 0 → IsTimed c lines next h → IsTimed c lines next (e ∷ h)
timed_stays c lines next s e h l none k = record { lines_are = k.lines_are; timed = timed_on c s (take next c.clock.items) (drop next c.clock.items) e h l none k.timed }

pub along_stays : (lines : List ClockLine) (next : ℕ) (s : Setup) (e : Event) (h : List Event) → Legal s (e ∷ h) → counts_tick e ≡ 0 → IsAlong lines next h → IsAlong lines next (e ∷ h)
along_stays lines next s e h l none k = λ c are. timed_stays c lines next s e h l none (k c are)

tried_stays : (line : Option ClockLine) (n : ℕ) (e : Event) (h : List Event) → WasTried line n h → WasTried line n (e ∷ h)
tried_stays line zero e h k = tt
tried_stays line (suc n) e h k = (e ∷ k.0, k.1, ap (λ (z : List Event). e ∷ z) k.2, k.3, k.4)

pub at_line_stays : (lines : List ClockLine) (next tries most : ℕ) (is_stuck : Bool) (s : Setup) (e : Event) (h : List Event) → Legal s (e ∷ h) → counts_tick e ≡ 0 → IsAtLine lines next tries most is_stuck h → IsAtLine lines next tries most is_stuck (e ∷ h)
at_line_stays lines next tries most is_stuck s e h l none k = record {
  along = along_stays lines next s e h l none k.along;
  tried = tried_stays (slice_get lines next) tries e h k.tried;
  few = k.few;
  all = k.all;
}
