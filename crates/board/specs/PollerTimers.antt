-- What the poller keeps of the clock and of armed timers.
use Rattle.std.specs.Prelude.{◌≡◌, ℕ, ◌+◌, ◌≤◌, ◌<◌, ◌⊎◌, true, false, negsuc, List, length, slice_get, Option, Some, None}
use Rattle.entry.specs.Entry.{Entry, fails}
use Rattle.history.specs.declared.req.Req.{Req}
use Rattle.history.specs.declared.event.Event.{Event}
use Rattle.history.specs.{phase, armed, fired, clock_of, IsPlaced, is_timer, is_timeout, is_link_timeout, ticks_of, count_of, IsPlacedAs}
use Rattle.steps.specs.Cells.{IsCell, request_at, total}
use Rattle.board.specs.declared.alarm.Alarm.{Alarm}
use Rattle.board.specs.declared.alarm.Timer.{Timer}
use Rattle.board.specs.declared.alarm.Alarm.TheVariants.{Linked, Alone}

-- what is kept of a timer that is placed as e
abbrev pub IsAlarm : Entry → Alarm → Type 0
IsAlarm e Linked = is_link_timeout e.op ≡ true
IsAlarm e (Alone f n) = (is_timeout e.op ≡ true) × (f ≡ fails e (negsuc 61)) × (n ≡ count_of e.op)

abbrev pub IsKept : List Event → Req → Option Alarm → Type 0
IsKept h q None = ⊥
IsKept h q (Some a) = (e : Entry) × IsPlaced h q e × IsAlarm e a

-- a timer that is armed is kept so. It hasn't fired: between two calls of the poller a timer that has fired is settled
abbrev pub KnowsAlarm : List Event → Req → Option Alarm → Type 0
KnowsAlarm h q o = (d : ℕ) → phase h q ≡ armed d → IsKept h q o × (fired h q ≡ false)

-- the clock's time, and what is kept of the armed timers by their cells
pub record KnowsTimers (K : List ℕ) (h : List Event) (clock : ℕ) (alarms : List Alarm) : Type 0 where
  pub clock_is : clock ≡ clock_of h
  pub small : clock ≤ 2147483647
  pub many : length alarms ≡ total K
  pub each : (x g : ℕ) → IsCell K x → KnowsAlarm h (request_at K x g) (slice_get alarms x)

-- the clock doesn't go to this tick: it is past it, or would go past its last tick (this profile)
abbrev pub IsPast : List Event → ℕ → Type 0
IsPast h to = (to < clock_of h) ⊎ (2147483647 < to)

-- which timer the request is placed as, if any
abbrev pub IsTimerAs : List Event → Req → Option Timer → Type 0
IsTimerAs h q None = IsPlacedAs h q is_timer false
IsTimerAs h q (Some t) = (e : Entry) × IsPlaced h q e × (ticks_of e.op ≡ Some t.ticks) × (t.ticks ≤ 2147483647) × IsAlarm e t.alarm

-- a TIMEOUT's count is looked up too
abbrev pub looks_for_count : Alarm → ℕ
looks_for_count Linked = 0
looks_for_count (Alone f n) = 1

-- how many looks tell which timer the request is
abbrev pub looks_at : Option Timer → ℕ
looks_at None = 1
looks_at (Some t) = 1 + looks_for_count t.alarm
