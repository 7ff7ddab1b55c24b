-- The events of the requests of one ring: when they may come, and what they make of the requests.
use Rattle.std.specs.Prelude.{ℕ, ◌==◌, ◌&&◌, Bool, true, false, List}
use Rattle.history.specs.declared.event.Event.{Event}
use Rattle.history.specs.declared.event.Event.TheVariants.{Submit, Begin, Park, Reply, Take, Miss, Tick, Arm, Expire, Count, Fire, FireMiss, Settle, Sever, Reap, Shut, Cut}
use Rattle.history.specs.State.{with_took, with_missed}
use Rattle.model.specs.declared.request.Request.{Request}
use Rattle.model.specs.declared.request.RequestStage.TheVariants.{Waits, Runs, Armed}
use Rattle.model.specs.Cancels.{may_take, may_miss}
use Rattle.model.specs.Moves.{put_stage, put_found, put_fired, put_settled, put_reaped, cancelled, timed_out, counted, may_begin, may_park, may_sever, may_reap, may_cut, may_arm, may_expire, may_count, may_fire, may_fire_miss, may_settle}

-- the ring of the first request that it names
abbrev pub ring_of : Event → ℕ
ring_of (Submit r e bytes last) = r.ring
ring_of (Begin r) = r.ring
ring_of (Park r) = r.ring
ring_of (Reply r res data') = r.ring
ring_of (Take c t) = c.ring
ring_of (Miss c t) = c.ring
ring_of (Tick n) = 0
ring_of (Arm r d) = r.ring
ring_of (Expire r) = r.ring
ring_of (Count r) = r.ring
ring_of (Fire l t) = l.ring
ring_of (FireMiss l t) = l.ring
ring_of (Settle l) = l.ring
ring_of (Sever r) = r.ring
ring_of (Reap r) = r.ring
ring_of Shut = 0
ring_of (Cut r) = r.ring

-- it touches requests of one ring, and no pipe
abbrev pub is_step : Event → Bool
is_step (Submit r e bytes last) = false
is_step (Reply r res data') = false
is_step (Tick n) = false
is_step Shut = false
is_step _ = true

abbrev pub may_step : ℕ → List Request → Event → Bool
may_step clock xs (Begin r) = may_begin xs r.k
may_step clock xs (Park r) = may_park xs r.k
may_step clock xs (Take c t) = may_take xs c.k t.k && (c.ring == t.ring)
may_step clock xs (Miss c t) = may_miss xs c.k t.k && (c.ring == t.ring)
may_step clock xs (Arm r d) = may_arm clock xs r.k d
may_step clock xs (Expire r) = may_expire clock xs r.k
may_step clock xs (Count r) = may_count xs r.k
may_step clock xs (Fire l t) = may_fire clock xs l.k t.k && (l.ring == t.ring)
may_step clock xs (FireMiss l t) = may_fire_miss clock xs l.k t.k && (l.ring == t.ring)
may_step clock xs (Settle l) = may_settle xs l.k
may_step clock xs (Sever r) = may_sever xs r.k
may_step clock xs (Reap r) = may_reap xs r.k
may_step clock xs (Cut r) = may_cut xs r.k
may_step clock xs _ = false

abbrev pub put_step : List Request → Event → List Request
put_step xs (Begin r) = put_stage xs r.k Runs
put_step xs (Park r) = put_stage xs r.k Waits
put_step xs (Take c t) = put_stage (put_found xs c.k with_took) t.k cancelled
put_step xs (Miss c t) = put_found xs c.k (with_missed t.k)
put_step xs (Arm r d) = put_stage xs r.k (Armed d)
put_step xs (Expire r) = put_stage xs r.k timed_out
put_step xs (Count r) = put_stage xs r.k counted
put_step xs (Fire l t) = put_stage (put_fired xs l.k) t.k cancelled
put_step xs (FireMiss l t) = put_fired xs l.k
put_step xs (Settle l) = put_settled xs l.k
put_step xs (Sever r) = put_stage xs r.k cancelled
put_step xs (Reap r) = put_reaped xs r.k
put_step xs (Cut r) = put_stage xs r.k cancelled
put_step xs _ = xs
