-- What parts of a poll turn make of the requests that wait, and why they stop.
use Rattle.std.specs.Prelude.{◌≡◌, ◌⊎◌, ◌≤◌, ℕ, Bool, true, false, List, ◌∷◌, length, Some}
use Rattle.history.specs.declared.req.Req.{Req}
use Rattle.work.specs.{Pass, seen_of, Facts}
use Rattle.board.specs.declared.phase.Phase.{Phase as Standing}
use Rattle.board.specs.declared.phase.Phase.TheVariants.{Armed}
use Rattle.board.specs.declared.poller.Polled.{Polled}
use Rattle.board.specs.TimerCalls.{IsEarly, IsUnarmed}
use Rattle.outbox.specs.Outbox.{Places, with_request}
use Rattle.wheel.specs.Wheel.{deadline_at}
use Rattle.history.specs.declared.event.Event.{Event}
use Rattle.history.specs.History.{clock_of}
use Rattle.runtime.specs.declared.lists.Lists.{Lists}
use Rattle.runtime.specs.PollTurns.{Rang}
use Rattle.runtime.specs.declared.poll_state.PollState.{PollState}
use Rattle.board.specs.PassEvents.{is_among}
use Rattle.runtime.specs.Desks.{Cares, IsHeldBack, IsLinkedDue, IsPendingTimer, IsNoted, IsPlain, LooksAfter, NoneIsDue, Once, cares_of}

-- the numbers found no place in the ready queue, or the outbox has none for one answer more
abbrev pub IsStuck : PollState → Type 0
IsStuck h = (h.kept.is_full ≡ true) ⊎ (h.room ≡ 0)

-- or no request more may wait
abbrev pub HasStopped : PollState → Places → Type 0
HasStopped h s = IsStuck h ⊎ (s.places ≤ length s.items)

-- the list of those that wait is as it was, or the request waits on, after all others
abbrev pub WaitsOn : Req → Places → Places → Type 0
WaitsOn r old new = (new ≡ old) ⊎ (new ≡ with_request r old)

-- and it waits on only where it could not go on
abbrev pub WasTried : Req → Pass → Pass → Places → Places → Type 0
WasTried r p q old new = (new ≡ old) ⊎ ((new ≡ with_request r old) × Once p q (λ h. IsHeldBack h r))

-- who waits had waited before, or could not go on
abbrev pub HaveWaited : Pass → Pass → List Req → List Req → Type 0
HaveWaited p q old new = (r : Req) → is_among new r ≡ true → (is_among old r ≡ true) ⊎ Once p q (λ h. IsHeldBack h r)

-- the poller went on, and answered nothing
abbrev pub WentOn : Facts → PollState → PollState → Type 0
WentOn b old new = (o : Places) → Rang b old o new o

-- and it looks after all that it did before, with the same requests that wait
pub record RangOn (b : Facts) (h : PollState) (before : Lists) (o : Places) (k : PollState) (after : Lists) (w : Places) : Type 0 where
  pub rang : Rang b h o k w
  pub cared : LooksAfter (cares_of after) k.poller.view.seen
  pub same : (after.rings ≡ before.rings) × (after.waiting ≡ before.waiting)

-- the list of those that are watched is as it was, or the timer is watched on, since it was pending
abbrev pub WatchesOn : Req → Pass → Pass → Places → Places → Type 0
WatchesOn r p q old new = (new ≡ old) ⊎ ((new ≡ with_request r old) × Once p q (λ h. IsPendingTimer h r))

-- with one that is watched, before all others
abbrev pub with_watched : Req → Cares → Cares
with_watched r c = record c { watched = r ∷ c.watched }

-- no deadline has come to these lists
abbrev pub HasFewerTimers : Lists → Lists → Type 0
HasFewerTimers old new = (r : Req) (d : ℕ) → deadline_at new.timers r ≡ Some d → deadline_at old.timers r ≡ Some d

-- the deadline of a timer has come; its reply may have come too
abbrev pub IsDueTimer : List Event → Req → Type 0
IsDueTimer h r = (d : ℕ) × IsNoted h r d × (d ≤ clock_of h)

-- what a look found is an armed timer
abbrev pub stands_armed : Standing → Bool
stands_armed (Armed d) = true
stands_armed _ = false

-- no timer whose deadline has come is left, or the outbox has no place more, or no second one, which the LINK_TIMEOUT whose turn it was may need
abbrev pub HasRung : Pass → PollState → Cares → Type 0
HasRung p h c = NoneIsDue c (seen_of h.poller) ⊎ ((h.room ≡ 0) ⊎ ((h.room ≤ 1) × ((r : Req) × Once p h.poller (λ e. IsLinkedDue e r))))

-- what stands of a timer that the poller polled, by the answer. Pending or early is what it was before, or is after
abbrev pub StandsPolled : Pass → PollState → Req → Polled → Type 0
StandsPolled p h r Polled.Early = IsEarly (seen_of h.poller) r × IsPlain (seen_of h.poller) r
StandsPolled p h r Polled.Fewer = IsEarly (seen_of p) r × IsPendingTimer (seen_of p) r
StandsPolled p h r Polled.TargetOpen = IsEarly (seen_of h.poller) r × IsPendingTimer (seen_of h.poller) r
StandsPolled p h r Polled.Due = (h.room ≡ 1) × IsLinkedDue (seen_of h.poller) r × IsPendingTimer (seen_of h.poller) r
StandsPolled p h r _ = IsUnarmed (seen_of h.poller) r
