-- In whose lane each event of a history stands: in that of who takes the step.
use Rattle.std.specs.Prelude.{ℕ, suc, nat_lt, Bool, true, false, if◌then◌else◌, List, [], ◌∷◌, ◌++◌, length, set, Option, Some, None}
use Rattle.std.specs.String.{string_bytes}
use Rattle.history.specs.declared.req.Req.{Req}
use Rattle.history.specs.declared.event.Event.{Event}
use Rattle.history.specs.declared.event.Event.TheVariants.{Submit, Begin, Park, Reply, Take, Miss, Tick, Arm, Expire, Count, Fire, FireMiss, Settle, Sever, Reap, Shut, Cut}
use Rattle.history.specs.History.{same}
use Rattle.script.specs.declared.script.Script.{Script}
use Rattle.script_text.specs.HistoryText.{event_text}
use Rattle.pictures.specs.declared.marks.Lane.{Lane}
use Rattle.pictures.specs.declared.marks.Mark.{Mark}

-- ---- the workers, each with the request that it runs

abbrev pub is_at : Option Req → Option Req → Bool
is_at None None = true
is_at (Some r) (Some q) = same r q
is_at _ _ = false

-- the first worker that runs this, or nothing
abbrev pub place_of : Option Req → List (Option Req) → ℕ
place_of w [] = 0
place_of w (x ∷ xs) = if is_at x w then 0 else suc (place_of w xs)

abbrev pub put_at : List (Option Req) → ℕ → Option Req → List (Option Req)
put_at ws i x = if nat_lt i (length ws) then set ws i x else ws ++ x ∷ []

-- a request is taken up by the first worker that runs none, or by one more
abbrev pub taken_up : List (Option Req) → Event → List (Option Req)
taken_up ws (Begin r) = put_at ws (place_of None ws) (Some r)
taken_up ws _ = ws

abbrev pub let_go : List (Option Req) → Event → List (Option Req)
let_go ws (Park r) = set ws (place_of (Some r) ws) None
let_go ws (Reply r res data') = set ws (place_of (Some r) ws) None
let_go ws _ = ws

-- how many there are after these events: as many as run at once
abbrev pub workers_after : List (Option Req) → List Event → ℕ
workers_after ws [] = length ws
workers_after ws (e ∷ es) = workers_after (let_go (taken_up ws e) e) es

-- ---- marks

-- who takes the step: the submitter of a ring, the poller, a worker, the clock, or the end
abbrev pub lane_of : List (Option Req) → Event → Lane
lane_of ws (Submit r e bytes last) = Lane.Ring r.ring
lane_of ws (Reap r) = Lane.Ring r.ring
lane_of ws (Begin r) = Lane.Worker (place_of (Some r) ws)
lane_of ws (Park r) = Lane.Worker (place_of (Some r) ws)
lane_of ws (Reply r res data') = Lane.Worker (place_of (Some r) ws)
lane_of ws (Take r t) = Lane.Worker (place_of (Some r) ws)
lane_of ws (Miss r t) = Lane.Worker (place_of (Some r) ws)
lane_of ws (Arm r d) = Lane.Poller
lane_of ws (Expire r) = Lane.Poller
lane_of ws (Count r) = Lane.Poller
lane_of ws (Fire r t) = Lane.Poller
lane_of ws (FireMiss r t) = Lane.Poller
lane_of ws (Settle r) = Lane.Poller
lane_of ws (Sever r) = Lane.Poller
lane_of ws (Tick n) = Lane.Clock
lane_of ws Shut = Lane.End
lane_of ws (Cut r) = Lane.End

-- the ring of the request that a cancel has hit, or that a timer has ended
abbrev pub target_of : Event → Option ℕ
target_of (Take r t) = Some t.ring
target_of (Fire r t) = Some t.ring
target_of _ = None

-- an event: its lane, its line, and the ring of its target
abbrev pub Shown : Type 0
Shown = Lane × (List ℕ × Option ℕ)

abbrev pub shown : Mark → Shown
shown m = (m.lane, (string_bytes m.text, m.target))

-- the marks of events after others, each once and in order
abbrev pub marks_after : Script → List Event → List (Option Req) → List Event → List Shown
marks_after c before ws [] = []
marks_after c before ws (e ∷ es) =
    (lane_of (taken_up ws e) e, (event_text c before e, target_of e)) ∷ marks_after c (before ++ e ∷ []) (let_go (taken_up ws e) e) es

-- those of a history
abbrev pub marks : Script → List Event → List Shown
marks c events = marks_after c [] [] events

abbrev pub workers_in : List Event → ℕ
workers_in events = workers_after [] events
