-- What a poll turn makes of its desk and of the outbox.
use Rattle.std.specs.Prelude.{◌≡◌, ◌≢◌, ◌⊎◌, ℕ, ◌+◌, ◌<◌, ◌≤◌, true, false, cond, List, [], ◌++◌, length, slice_index, sum_by}
use Rattle.history.specs.declared.req.Req.{Req}
use Rattle.history.specs.declared.event.Event.{Event}
use Rattle.history.specs.Ticked.{ticked}
use Rattle.board.specs.PassEvents.{GoesOn, answered_by, is_among, AreNew}
use Rattle.board.specs.declared.shape.RingShape.{RingShape}
use Rattle.steps.specs.declared.view.Role.TheVariants.{Poller}
use Rattle.steps.specs.Journal.{freed}
use Rattle.work.specs.{Facts, IsOf, Pass, seen_of}
use Rattle.ready.specs.Ready.{Facts as QueueFacts, Moves, IsQueuePass}
use Rattle.bell.specs.BellPasses.{Sleeping}
use Rattle.outbox.specs.Outbox.{Places}
use Rattle.runtime.specs.declared.poll_state.PollState.{PollState}
use Rattle.wheel.specs.Wheel.{deadline_at}
use Rattle.runtime.specs.declared.lists.Intake.{Intake}
use Rattle.runtime.specs.Desks.{Cares, AreHeldBack, ArePending, IsDone, IsLinkedDue, LooksAfter, NoneIsDue, Once, taken_in}

-- the poller's desk: its passes, the numbers that found no place in the ready queue, and how many cells and rings its board has. It looks after the requests of each ring that were taken up, those that wait for another, those timers that are watched since a reply may end them, and the deadlines
pub record Desk : Type 0 where
  pub poller : Pass
  pub sleeper : Sleeping
  pub ready : Moves
  pub kept : List Req
  pub places : ℕ
  pub rings : ℕ
  pub intakes : List Intake
  pub waiting : List Req
  pub watched : List Req
  pub deadlines : List ((ℕ × ℕ) × ℕ)

abbrev pub cares_in : Desk → Cares
cares_in d = record { taken = taken_in d.intakes; waiting = d.waiting; watched = d.watched; deadline = deadline_at d.deadlines }

-- the pass is a poller's, which alone sets the clock
abbrev pub IsPollers : Pass → Type 0
IsPollers p = (n : ℕ) × (p.view.role ≡ Poller n)

-- the pass is the poller's, of this board
abbrev pub IsAt : Facts → PollState → Type 0
IsAt b h = IsOf b h.poller × IsPollers h.poller

-- and the other one is of this queue
abbrev pub AreAt : Facts → QueueFacts → PollState → Type 0
AreAt b q h = IsAt b h × IsQueuePass q h.ready

-- the outbox has room for what may still be answered in this turn
abbrev pub HasRoom : PollState → Places → Type 0
HasRoom h o = length o.items + h.room ≤ o.places

-- with these and such room it may answer timers, and looks after all that was taken up
pub record MayRing (b : Facts) (h : PollState) (c : Cares) (o : Places) : Type 0 where
  pub own : IsAt b h
  pub room : HasRoom h o
  pub cared : LooksAfter c h.poller.view.seen

-- and release requests
pub record MayRelease (b : Facts) (q : QueueFacts) (h : PollState) (c : Cares) (o : Places) : Type 0 where
  pub own : AreAt b q h
  pub room : HasRoom h o
  pub cared : LooksAfter c h.poller.view.seen

-- a part of a poll turn: what the poller's events answered is in the outbox, each once and in order, and each request that it moved to Ready was put into the ready queue, or is kept, in order. The clock was not set
pub record Did (b : Facts) (q : QueueFacts) (old : PollState) (before : Places) (new : PollState) (after : Places) : Type 0 where
  pub events : List Event
  pub goes : GoesOn b old.poller events new.poller
  pub still : ticked events ≡ 0
  pub answered : after.items ≡ before.items ++ answered_by events
  pub places : after.places ≡ before.places
  pub room : length after.items + new.room ≡ length before.items + old.room
  pub released : List Req
  pub fresh : AreNew old.poller.view.seen released
  pub freed_are : (r : Req) → freed new.poller.view.seen r ≡ cond (is_among released r) true (freed old.poller.view.seen r)
  pub puts : List Req
  pub ready : new.ready ≡ record old.ready { put = old.ready.put ++ puts }
  pub handed : old.kept.numbers ++ released ≡ puts ++ new.kept.numbers
  pub quiet : new.moved ≡ false → (old.moved ≡ false) × (events ≡ []) × (released ≡ []) × (puts ≡ [])

-- the poller went on with timers: what its events answered is in the outbox, each once and in order, and no request was moved to Ready. The clock was not set
pub record Rang (b : Facts) (old : PollState) (before : Places) (new : PollState) (after : Places) : Type 0 where
  pub events : List Event
  pub goes : GoesOn b old.poller events new.poller
  pub still : ticked events ≡ 0
  pub answered : after.items ≡ before.items ++ answered_by events
  pub places : after.places ≡ before.places
  pub room : length after.items + new.room ≡ length before.items + old.room
  pub alone : (r : Req) → freed new.poller.view.seen r ≡ freed old.poller.view.seen r
  pub same : (new.ready ≡ old.ready) × (new.kept ≡ old.kept)
  pub quiet : new.moved ≡ false → (old.moved ≡ false) × (events ≡ [])

-- how many cells the rings have in all
abbrev pub cells_in_all : List RingShape → ℕ
cells_in_all rings = sum_by (λ r. r.cells) rings

-- the desk of a poller with these passes that has taken up nothing yet
pub record IsNewDesk (rings : ℕ) (poller : Pass) (sleeper : Sleeping) (ready : Moves) (d : Desk) : Type 0 where
  pub poller_is : d.poller ≡ poller
  pub sleeper_is : d.sleeper ≡ sleeper
  pub ready_is : d.ready ≡ ready
  pub kept_is : d.kept ≡ []
  pub rings_are : d.rings ≡ rings
  pub none_taken : (i : ℕ) → taken_in d.intakes i ≡ 0

-- the poller looked, and set the clock on, once, or did not
pub record HasTicked (b : Facts) (old new : PollState) : Type 0 where
  pub events : List Event
  pub goes : GoesOn b old.poller events new.poller
  pub once : ticked events ≤ 1
  pub silent : answered_by events ≡ []
  pub alone : (r : Req) → freed new.poller.view.seen r ≡ freed old.poller.view.seen r
  pub same : (new.ready ≡ old.ready) × (new.kept ≡ old.kept) × (new.room ≡ old.room)
  pub quiet : new.moved ≡ false → events ≡ []

-- a turn of the poller's desk, which was lent an empty outbox. What the poller's events answered is in the outbox, each once and in order; just the requests that it moved to Ready, each new and once, were put into the ready queue, after the numbers that were kept before, and the last of these may be kept. The clock was set once at most
pub record IsPollTurn (b : Facts) (q : QueueFacts) (old new : Desk) (after : Places) : Type 0 where
  pub own : IsOf b new.poller × IsQueuePass q new.ready
  pub events : List Event
  pub goes : GoesOn b old.poller events new.poller
  pub once : ticked events ≤ 1
  pub answered : after.items ≡ answered_by events
  pub released : List Req
  pub fresh : AreNew old.poller.view.seen released
  pub freed_are : (r : Req) → freed new.poller.view.seen r ≡ cond (is_among released r) true (freed old.poller.view.seen r)
  pub puts : List Req
  pub ready : new.ready ≡ record old.ready { put = old.ready.put ++ puts }
  pub handed : old.kept ++ released ≡ puts ++ new.kept
  pub shape : (new.places ≡ old.places) × (new.rings ≡ old.rings)

-- a turn was stopped: it keeps numbers that found no place in the ready queue, or the outbox has none for one answer more
abbrev pub IsStopped : Desk → Places → Type 0
IsStopped d o = (d.kept ≢ []) ⊎ (d.places ≤ length o.items)

-- this many requests are all that were submitted by this tail, or by one that tells the poller to end, too
abbrev pub ReachesTo : ℕ → ℕ → Type 0
ReachesTo tail n = (tail ≤ n) ⊎ ((9223372036854775808 ≤ tail) × (tail ≤ n + 9223372036854775808))

-- the ring's requests were taken up to the tail that was collected
abbrev pub IsTaken : List ℕ → (ℕ → ℕ) → ℕ → Type 0
IsTaken tails taken i = ReachesTo (slice_index tails i) (taken i)

-- so were those of all rings, unless the turn was stopped or each place of the list of those that wait is taken
abbrev pub AllTaken : Desk → Places → Type 0
AllTaken d o = ((i : ℕ) → i < d.rings → IsTaken d.sleeper.tails (taken_in d.intakes) i) ⊎ (IsStopped d o ⊎ (d.places ≤ length d.waiting))

-- each request that waits could not go on when this turn tried it, unless the turn was stopped
abbrev pub AllTried : Desk → Desk → Places → Type 0
AllTried old new o = AreHeldBack old.poller new.poller new.waiting ⊎ IsStopped new o

-- no timer whose deadline has come is left, unless the outbox has no place more, or just one when it was the turn of a LINK_TIMEOUT, which may end its target too
abbrev pub AllRung : Desk → Desk → Places → Type 0
AllRung old new o = NoneIsDue (cares_in new) (seen_of new.poller) ⊎ ((new.places ≤ length o.items) ⊎ ((new.places ≤ length o.items + 1) × ((r : Req) × Once old.poller new.poller (λ h. IsLinkedDue h r))))

-- each timer that is still watched was looked at in this turn, and waits for a reply, unless the outbox has no place more
abbrev pub AllCounted : Desk → Desk → Places → Type 0
AllCounted old new o = ArePending old.poller new.poller new.watched ⊎ (new.places ≤ length o.items)

-- the turn did nothing but look, and keeps no number
pub record IsStill (b : Facts) (old new : Desk) (o : Places) : Type 0 where
  pub kept : new.kept ≡ []
  pub goes : GoesOn b old.poller [] new.poller
  pub alone : (r : Req) → freed new.poller.view.seen r ≡ freed old.poller.view.seen r
  pub ready : new.ready ≡ old.ready
  pub answered : o.items ≡ []

-- the poller is done with each request that was taken up
abbrev pub AllDone : Desk → Type 0
AllDone d = (r : Req) → r.k < taken_in d.intakes r.ring → IsDone d.poller.view.seen r

-- a turn of the poller that did nothing: it has taken up all that was submitted by the tails that it collected, each request that waits could not go on, no timer is due, and each that counts waits for a reply
pub record IsAtRest (b : Facts) (q : QueueFacts) (old new : Desk) : Type 0 where
  pub outbox : Places
  pub turned : IsPollTurn b q old new outbox
  pub still : IsStill b old new outbox
  pub taken_up : AllTaken new outbox
  pub tried : AllTried old new outbox
  pub rung : AllRung old new outbox
  pub counted : AllCounted old new outbox
