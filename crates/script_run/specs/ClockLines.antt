-- The clock of a script: what its lines are, for which request it asks, and how far it has come in a history.
use Rattle.std.specs.Prelude.{◌≡◌, ℕ, cond, take, drop, slice_get, Bool, true, false, List, [], ◌∷◌, Option, Some, None}
use Rattle.history.specs.declared.req.Req.{Req}
use Rattle.history.specs.declared.event.Event.{Event}
use Rattle.board.specs.declared.phase.Phase.{Phase}
use Rattle.board.specs.declared.phase.Phase.TheVariants.{Done, Gone}
use Rattle.script.specs.declared.act.Act.{Act}
use Rattle.script.specs.declared.script.Script.{Script}
use Rattle.script.specs.{HasTimed, request_of}
use Rattle.script_run.specs.declared.clock.ClockLine.{ClockLine}
use Rattle.script_run.specs.declared.clock.ClockLine.TheVariants.{Wait, Armed, Tick}

-- the line is this one of the script, with the request and the place of its entry
abbrev pub IsClockLine : Script → Act → ClockLine → Type 0
IsClockLine c (Act.Wait p) (Wait r q) = (request_of c p ≡ Some r) × (p ≡ q)
IsClockLine c (Act.Armed p) (Armed r q) = (request_of c p ≡ Some r) × (p ≡ q)
IsClockLine c (Act.Tick n) (Tick m) = n ≡ m
IsClockLine c _ _ = ⊥

abbrev pub AreClockLines : Script → List Act → List ClockLine → Type 0
AreClockLines c [] [] = Unit {0}
AreClockLines c (a ∷ acts) (l ∷ lines) = IsClockLine c a l × AreClockLines c acts lines
AreClockLines c _ _ = ⊥

-- the line that is next, unless the clock was stopped
abbrev pub line_at : Bool → List ClockLine → ℕ → Option ClockLine
line_at is_stuck lines next = cond is_stuck None (slice_get lines next)

-- that of its line; a line that sets the clock asks for any, so that the poller doesn't sleep
abbrev pub asked_at : ClockLine → Req
asked_at (Wait r place) = r
asked_at (Armed r place) = r
asked_at (Tick to) = record { ring = 0; k = 0 }

-- a clock that has come to the end of its lines asks for none
abbrev pub asked_of : Option ClockLine → Option Req
asked_of None = None
asked_of (Some line) = Some (asked_at line)

-- these are the lines of the script's clock, and where this has happened it has carried out the first of them, up to the next
pub record IsTimed (c : Script) (lines : List ClockLine) (next : ℕ) (h : List Event) : Type 0 where
  pub lines_are : AreClockLines c c.clock.items lines
  pub timed : HasTimed c (take next c.clock.items) (drop next c.clock.items) h

-- whatever script has these lines, its clock has come so far
abbrev pub IsAlong : List ClockLine → ℕ → List Event → Type 0
IsAlong lines next h = (c : Script) → AreClockLines c c.clock.items lines → IsTimed c lines next h

-- where a request that the clock asked for stands: it has its reply, or it is armed or has it
abbrev pub has_reply : Option Phase → Bool
has_reply (Some (Done res)) = true
has_reply (Some Gone) = true
has_reply _ = false

abbrev pub is_ready : Option Phase → Bool
is_ready (Some (Phase.Armed d)) = true
is_ready (Some (Done res)) = true
is_ready (Some Gone) = true
is_ready _ = false
