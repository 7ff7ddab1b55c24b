-- What the events make of the requests of a ring.
use Rattle.std.specs.Prelude.{ℕ, suc, ◌+◌, ◌-◌, ◌==◌, ◌&&◌, ◌||◌, not, nat_lt, nat_le, Bool, true, false, cond, pos, negsuc, List, [], length, drop, Option, Some, None, slice_get, set}
use Rattle.std.specs.List.{filter}
use Rattle.entry.specs.Entry.{Entry}
use Rattle.entry.specs.declared.op.Op.{Op}
use Rattle.model.specs.declared.request.Request.{Request}
use Rattle.model.specs.declared.request.RequestStage.{RequestStage}
use Rattle.model.specs.declared.request.RequestStage.TheVariants.{Waits, Runs, Armed, Replied, Reaped}
use Rattle.history.specs.{is_timer, is_timeout, is_link_timeout, is_link_timeout_in, ticks_of, count_of, Catch, none_yet}
use Rattle.model.specs.Seen.{is_pending, stage_at, fired_of, placed_in}
use Rattle.model.specs.Decides.{pending_of, severed_in, clear_in, any_below}

abbrev pub put_at : List Request → ℕ → (Request → Request) → Option Request → List Request
put_at xs k f None = xs
put_at xs k f (Some x) = set xs k (f x)

-- the request k is written, if it is there
abbrev pub put : List Request → ℕ → (Request → Request) → List Request
put xs k f = put_at xs k f (slice_get xs k)

abbrev pub put_stage : List Request → ℕ → RequestStage → List Request
put_stage xs k s = put xs k (λ x. record x { stage = s })

abbrev pub put_found : List Request → ℕ → (Catch → Catch) → List Request
put_found xs k f = put xs k (λ x. record x { found = f x.found })

abbrev pub put_fired : List Request → ℕ → List Request
put_fired xs k = put xs k (λ x. record x { fired = true })

abbrev pub put_taken : List Request → ℕ → List ℕ → List Request
put_taken xs k bs = put xs k (λ x. record x { taken = bs })

abbrev pub is_waits : Option RequestStage → Bool
is_waits (Some Waits) = true
is_waits _ = false

abbrev pub is_running : Option RequestStage → Bool
is_running (Some Runs) = true
is_running _ = false

-- it is armed, with a deadline at or below the clock
abbrev pub is_due : ℕ → Option RequestStage → Bool
is_due clock (Some (Armed d)) = nat_le d clock
is_due clock _ = false

abbrev pub is_armed : Option RequestStage → Bool
is_armed (Some (Armed d)) = true
is_armed _ = false

abbrev pub placed_as : (Op → Bool) → Option Entry → Bool
placed_as p None = false
placed_as p (Some e) = p e.op

-- whose place decides
abbrev pub gate_in : List Request → ℕ → ℕ
gate_in xs k = cond (is_link_timeout_in (placed_in xs k)) (k - 1) k

abbrev pub open_in : List Request → ℕ → Bool
open_in xs k = clear_in xs (gate_in xs k)

abbrev pub may_begin : List Request → ℕ → Bool
may_begin xs k = is_waits (stage_at (slice_get xs k)) && (open_in xs k && not (placed_as is_timer (placed_in xs k)))

-- it is armed or waits
abbrev pub is_idle : Option RequestStage → Bool
is_idle (Some Waits) = true
is_idle (Some (Armed d)) = true
is_idle _ = false

abbrev pub is_replied : Option RequestStage → Bool
is_replied (Some (Replied res)) = true
is_replied _ = false

abbrev pub is_answered : Option RequestStage → Bool
is_answered None = false
is_answered (Some s) = not (is_pending s)

-- -125, -62 and 0
abbrev pub cancelled : RequestStage
cancelled = Replied (negsuc 124)

abbrev pub timed_out : RequestStage
timed_out = Replied (negsuc 61)

abbrev pub counted : RequestStage
counted = Replied (pos 0)

abbrev pub may_park : List Request → ℕ → Bool
may_park xs k = is_running (stage_at (slice_get xs k))

abbrev pub may_sever : List Request → ℕ → Bool
may_sever xs k = is_waits (stage_at (slice_get xs k)) && severed_in xs k

abbrev pub may_reap : List Request → ℕ → Bool
may_reap xs k = is_replied (stage_at (slice_get xs k))

abbrev pub taken_out : RequestStage → RequestStage
taken_out (Replied res) = Reaped res
taken_out s = s

abbrev pub put_reaped : List Request → ℕ → List Request
put_reaped xs k = put xs k (λ x. record x { stage = taken_out x.stage })

abbrev pub may_cut : List Request → ℕ → Bool
may_cut xs k = pending_of (slice_get xs k)

-- the deadline is this many ticks from now
abbrev pub falls_due : ℕ → ℕ → Option ℕ → Bool
falls_due clock d None = false
falls_due clock d (Some n) = d == clock + n

abbrev pub arms : ℕ → ℕ → Option Entry → Bool
arms clock d None = false
arms clock d (Some e) = falls_due clock d (ticks_of e.op)

abbrev pub may_arm : ℕ → List Request → ℕ → ℕ → Bool
may_arm clock xs k d = is_waits (stage_at (slice_get xs k)) && (open_in xs k && arms clock d (placed_in xs k))

abbrev pub may_expire : ℕ → List Request → ℕ → Bool
may_expire clock xs k = is_due clock (stage_at (slice_get xs k)) && placed_as is_timeout (placed_in xs k)

-- it was answered
abbrev pub is_done : Request → Bool
is_done x = not (is_pending x.stage)

-- how many requests after k were answered
abbrev pub later_answered : List Request → ℕ → ℕ
later_answered xs k = length (filter is_done (drop (suc k) xs))

-- it counts completions, and this many are enough
abbrev pub counts_up : ℕ → Option Entry → Bool
counts_up n None = false
counts_up n (Some e) = nat_lt 0 (count_of e.op) && nat_le (count_of e.op) n

abbrev pub may_count : List Request → ℕ → Bool
may_count xs k = is_armed (stage_at (slice_get xs k)) && counts_up (later_answered xs k) (placed_in xs k)

-- the timer l runs out now, and t is its target
abbrev pub runs_out : ℕ → List Request → ℕ → ℕ → Bool
runs_out clock xs l t = (is_due clock (stage_at (slice_get xs l)) && not (fired_of (slice_get xs l))) && (placed_as is_link_timeout (placed_in xs l) && (suc t == l))

abbrev pub may_fire : ℕ → List Request → ℕ → ℕ → Bool
may_fire clock xs l t = runs_out clock xs l t && is_idle (stage_at (slice_get xs t))

abbrev pub may_fire_miss : ℕ → List Request → ℕ → ℕ → Bool
may_fire_miss clock xs l t = runs_out clock xs l t && is_running (stage_at (slice_get xs t))

abbrev pub may_settle : List Request → ℕ → Bool
may_settle xs l = (is_armed (stage_at (slice_get xs l)) && placed_as is_link_timeout (placed_in xs l)) && (fired_of (slice_get xs l) || is_answered (stage_at (slice_get xs (l - 1))))

abbrev pub put_settled : List Request → ℕ → List Request
put_settled xs l = put xs l (λ x. record x { stage = cond x.fired timed_out cancelled })

abbrev pub runs_of : Option Request → Bool
runs_of o = is_running (stage_at o)

-- some request of the ring runs
abbrev pub runs_in : List Request → Bool
runs_in xs = any_below (λ m. runs_of (slice_get xs m)) (length xs)

-- a request as it is handed in
abbrev pub born : Entry → List ℕ → Bool → Request
born e bytes last = record { sqe = e; bytes = bytes; last = last; stage = Waits; found = none_yet; fired = false; taken = [] }
