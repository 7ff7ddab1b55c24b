-- The hashed wheel: 256 slots, and beside them the deadline of each request.
use Rattle.std.specs.Prelude.{◌≡◌, ℕ, ◌<◌, ◌≤◌, ◌%◌, ◌==◌, ◌&&◌, nat_lt, Bool, false, cond, List, [], ◌∷◌, Option, Some, None}
use Rattle.std.specs.List.{slice_index_or}
use Rattle.std.specs.Map.{lookup}
use Rattle.history.specs.declared.req.Req.{Req}
use Rattle.wheel.specs.declared.sorted.Timer.{Timer}
use Rattle.wheel.specs.TimerLists.{deadline_in}

abbrev pub no_timers : List Timer
no_timers = []

-- the timers of a slot
abbrev pub slot_list : List (List Timer) → ℕ → List Timer
slot_list slots s = slice_index_or slots s no_timers

-- the first timer of a slot and its deadline
abbrev pub front_of : List Timer → Option (Req × ℕ)
front_of [] = None
front_of (t ∷ ts) = Some (t.req, t.at)

-- the one of the two that is due first
abbrev pub earlier_of : Option (Req × ℕ) → Option (Req × ℕ) → Option (Req × ℕ)
earlier_of None y = y
earlier_of (Some x) None = Some x
earlier_of (Some x) (Some y) = cond (nat_lt y.1 x.1) (Some y) (Some x)

-- one of least deadline among the timers of the first n slots; none only where these have no timers
abbrev pub IsLeast : List (List Timer) → ℕ → Option (Req × ℕ) → Type 0
IsLeast slots n None = (s : ℕ) → s < n → (q : Req) (e : ℕ) → deadline_in (slot_list slots s) q ≡ Some e → ⊥
IsLeast slots n (Some x) = ((t : ℕ) × (deadline_in (slot_list slots t) x.0 ≡ Some x.1)) × ((s : ℕ) → s < n → (q : Req) (e : ℕ) → deadline_in (slot_list slots s) q ≡ Some e → x.1 ≤ e)

-- requests, as pairs of ring and number, with their deadlines
abbrev pub Deadlines : Type 0
Deadlines = List ((ℕ × ℕ) × ℕ)

abbrev pub is_key : Req → ℕ × ℕ → Bool
is_key r p = (r.ring == p.0) && (r.k == p.1)

-- the deadline of a request
abbrev pub deadline_at : Deadlines → Req → Option ℕ
deadline_at es r = lookup (is_key r) es

-- what the slot s has of a request with this deadline
abbrev pub in_slot : ℕ → Option ℕ → Option ℕ
in_slot s None = None
in_slot s (Some d) = cond (d % 256 == s) (Some d) None

-- each timer stands in the slot of its deadline, and nowhere else
abbrev pub IsWheel : List (List Timer) → Deadlines → Type 0
IsWheel slots es = (s : ℕ) (q : Req) → deadline_in (slot_list slots s) q ≡ in_slot s (deadline_at es q)

-- no deadline in the map, and none in a slot, is below this one
abbrev pub AreFrom : ℕ → Deadlines → Type 0
AreFrom d es = (q : Req) (e : ℕ) → deadline_at es q ≡ Some e → d ≤ e

abbrev pub StandFrom : ℕ → List (List Timer) → Type 0
StandFrom d slots = (s : ℕ) (q : Req) (e : ℕ) → deadline_in (slot_list slots s) q ≡ Some e → d ≤ e

-- the deadline of the first timer, and the highest where there is none
abbrev pub bound_of : Option (Req × ℕ) → ℕ
bound_of None = 4294967295
bound_of (Some x) = x.1

abbrev pub has_deadline : Option (Req × ℕ) → ℕ → Bool
has_deadline None d = false
has_deadline (Some x) d = x.1 == d
