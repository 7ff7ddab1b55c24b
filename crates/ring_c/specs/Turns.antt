-- What a turn of the poller does.
use Rattle.std.specs.Prelude.{◌≡◌, ℕ, ◌+◌, ◌<◌, ◌≤◌, true, cond, List, ◌++◌, length}
use Rattle.history.specs.declared.req.Req.{Req}
use Rattle.history.specs.declared.event.Event.{Event}
use Rattle.steps.specs.Journal.{freed}
use Rattle.work.specs.{Facts, Pass}
use Rattle.board.specs.PassEvents.{GoesOn, answered_by, is_among, AreNew}

-- the requests that are to be run and those that were answered, and how many there may be of each
pub record Told : Type 0 where
  pub ready : List Req
  pub answered : List Req
  pub ready_most : ℕ
  pub answered_most : ℕ

-- there is room for one request that is to be run, and for two that were answered
abbrev pub HasRoom : Told → Type 0
HasRoom o = (length o.ready < o.ready_most) × (length o.answered + 2 ≤ o.answered_most)

-- a part of a turn: it tells of each request that the poller's events answered, once and in order, and of just those that it moved to Ready, each new and once
pub record Turned (b : Facts) (p : Pass) (o : Told) (q : Pass) (u : Told) : Type 0 where
  pub events : List Event
  pub goes : GoesOn b p events q
  pub answered : u.answered ≡ o.answered ++ answered_by events
  pub released : List Req
  pub fresh : AreNew p.view.seen released
  pub freed_are : (r : Req) → freed q.view.seen r ≡ cond (is_among released r) true (freed p.view.seen r)
  pub ready : u.ready ≡ o.ready ++ released
  pub most : (u.ready_most ≡ o.ready_most) × (u.answered_most ≡ o.answered_most)

-- a whole turn, which tells these requests
pub record IsTurn (b : Facts) (p q : Pass) (ready answered : List Req) : Type 0 where
  pub events : List Event
  pub goes : GoesOn b p events q
  pub answered_are : answered ≡ answered_by events
  pub fresh : AreNew p.view.seen ready
  pub freed_are : (r : Req) → freed q.view.seen r ≡ cond (is_among ready r) true (freed p.view.seen r)
