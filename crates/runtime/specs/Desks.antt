-- What the poller's desk looks after, and what is true of that between two turns.
use Rattle.std.specs.Prelude.{◌≡◌, ◌≢◌, ◌⊎◌, ℕ, ◌<◌, ◌≤◌, true, List, ◌∷◌, Option, Some}
use Rattle.std.specs.List.{slice_index_or}
use Rattle.entry.specs.Entry.{Entry}
use Rattle.history.specs.declared.req.Req.{Req}
use Rattle.history.specs.declared.event.Event.{Event}
use Rattle.history.specs.{phase, waits, armed, clock_of, IsReplied, IsLinkTimeout, IsPlaced, IsTarget, Open, Severed, is_timeout, count_of, IsPlacedAs}
use Rattle.steps.specs.declared.line.Line.{Line}
use Rattle.steps.specs.{events_of, freed, Begins}
use Rattle.work.specs.Passes.{Pass}
use Rattle.board.specs.PassEvents.{is_among}
use Rattle.board.specs.TimerCalls.{HasFewer}
use Rattle.wheel.specs.Wheel.{deadline_at}
use Rattle.runtime.specs.declared.lists.Intake.{Intake}
use Rattle.runtime.specs.declared.lists.Lists.{Lists}

-- how many requests of each ring were taken up, those that wait for another, those timers that are watched since a reply may end them, and the deadline of each timer
pub record Cares : Type 0 where
  pub taken : ℕ → ℕ
  pub waiting : List Req
  pub watched : List Req
  pub deadline : Req → Option ℕ

-- how many requests of the ring i were taken up; of one that isn't there, none
abbrev pub nothing_taken : Intake
nothing_taken = record { cells = 0; taken = 0 }

abbrev pub taken_in : List Intake → ℕ → ℕ
taken_in xs i = (slice_index_or xs i nothing_taken).taken

abbrev pub cares_of : Lists → Cares
cares_of l = record { taken = taken_in l.rings.items; waiting = l.waiting.items; watched = l.watchers.items; deadline = deadline_at l.timers }

-- with one that waits, before all others
abbrev pub with_waiting : Req → Cares → Cares
with_waiting r c = record c { waiting = r ∷ c.waiting }

-- the poller is done with the request: it moved it to Ready, or it has its reply
abbrev pub IsDone : List Line → Req → Type 0
IsDone j r = (freed j r ≡ true) ⊎ IsReplied (phase (events_of j) r)

-- a TIMEOUT that counts no completions, so that no reply of another ends it but that of a cancel
abbrev pub IsPlain : List Event → Req → Type 0
IsPlain h r = IsPlacedAs h r is_timeout true × ((e : Entry) × IsPlaced h r e × (count_of e.op ≡ 0))

-- the timer is armed, its deadline is noted, and it is watched where it has a target or counts completions
pub record IsSet (c : Cares) (j : List Line) (r : Req) : Type 0 where
  pub deadline : ℕ
  pub armed_is : phase (events_of j) r ≡ armed deadline
  pub noted : c.deadline r ≡ Some deadline
  pub watched : (is_among c.watched r ≡ true) ⊎ IsPlain (events_of j) r

abbrev pub IsCared : Cares → List Line → Req → Type 0
IsCared c j r = IsDone j r ⊎ ((is_among c.waiting r ≡ true) ⊎ IsSet c j r)

-- a deadline is that of the timer, whose reply may have come
abbrev pub IsNoted : List Event → Req → ℕ → Type 0
IsNoted h r d = (d ≤ 4294967295) × ((phase h r ≡ armed d) ⊎ IsReplied (phase h r))

-- nothing that was taken up is forgotten: the poller is done with it, or it waits in the list, or it is armed and set; and no deadline is another one's
pub record LooksAfter (c : Cares) (j : List Line) : Type 0 where
  pub each : (r : Req) → r.k < c.taken r.ring → IsCared c j r
  pub timers : (r : Req) (d : ℕ) → c.deadline r ≡ Some d → IsNoted (events_of j) r d

-- the request could not go on: it didn't wait, or was not open, or an earlier member of its chain had failed
abbrev pub IsHeldBack : List Event → Req → Type 0
IsHeldBack h r = (phase h r ≢ waits) ⊎ ((¬ Open h r) ⊎ Severed h r)

-- at some time between what the two passes had seen
abbrev pub Once : Pass → Pass → (List Event → Type 0) → Type 0
Once p q P = (j : List Line) × Begins j p.view.seen × Begins q.view.seen j × P (events_of j)

-- each of these requests could not go on, at some time in between
abbrev pub AreHeldBack : Pass → Pass → List Req → Type 0
AreHeldBack p q rs = (r : Req) → is_among rs r ≡ true → Once p q (λ h. IsHeldBack h r)

-- the timer counts completions, and there were too few; or its target had no reply
abbrev pub IsPendingTimer : List Event → Req → Type 0
IsPendingTimer h r = HasFewer h r ⊎ ((t : Req) × IsTarget h r t × (¬ IsReplied (phase h t)))

abbrev pub ArePending : Pass → Pass → List Req → Type 0
ArePending p q rs = (r : Req) → is_among rs r ≡ true → Once p q (λ h. IsPendingTimer h r)

-- no timer's deadline has come
abbrev pub NoneIsDue : Cares → List Event → Type 0
NoneIsDue c h = (r : Req) (d : ℕ) → c.deadline r ≡ Some d → clock_of h < d

-- the request is an armed LINK_TIMEOUT whose deadline has come
abbrev pub IsLinkedDue : List Event → Req → Type 0
IsLinkedDue h r = (d : ℕ) × (phase h r ≡ armed d) × (d ≤ clock_of h) × IsLinkTimeout h r
