-- What a submitter keeps of its ring, and what that says of the ring's requests.
use Rattle.std.specs.Prelude.{◌≡◌, ◌⊎◌, ℕ, zero, suc, ◌+◌, ◌/◌, ◌<◌, ◌≤◌, ◌==◌, ◌&&◌, ◌||◌, not, Bool, true, List, Option}
use Rattle.atomic_table.specs.Seated.{TableId}
use Rattle.atomic_table.specs.declared.shared.Seat.{Seat}
use Rattle.board.specs.declared.queue.TheConstants.{LAST_GENERATION}
use Rattle.claim.specs.Facts.{Facts}
use Rattle.history.specs.declared.req.Req.{Req}
use Rattle.history.specs.declared.event.Event.{Event}
use Rattle.history.specs.{phase, submits, IsChainDone, before_in, hosts, joins}
use Rattle.steps.specs.declared.slot.Thing.{Thing}
use Rattle.steps.specs.declared.view.View.{View}
use Rattle.steps.specs.{Orderly, IsFree, IsReaped, events_of, IsCell, cells_in, place_of, request_at, total, words_of, Looks, IsStep}
use Rattle.work.specs.declared.grid.Cell.{Cell}
use Rattle.board.specs.declared.queue.Queue.{Queue}
use Rattle.work.specs.Passes.{Pass, seen_of}
use Rattle.board.specs.declared.error.SubmitError.{SubmitError}
use Rattle.board.specs.declared.error.SubmitError.TheVariants.{Full, Spent}
use Rattle.board.specs.Calls.{Stepped}
use Rattle.board.specs.Seats.{IsSubmitterSeat}

-- the ring's k-th request
abbrev pub nth : ℕ → ℕ → Req
nth i k = record { ring = i; k = k }

-- the chains of all requests of the ring before `done` have replied, and whether a LINK_TIMEOUT may be the next entry
pub record KnowsChains (v : View) (ring next done : ℕ) (hosted : Bool) : Type 0 where
  pub orderly : Orderly v.layout v.seen
  pub hosted_is : hosted ≡ hosts (before_in (events_of v.seen) (nth ring next))
  pub done_are : (k : ℕ) → k < done → IsChainDone (events_of v.seen) (nth ring k)
  pub low : done ≤ next
  pub near : next ≤ done + cells_in v.layout.cells ring

-- all that the submitter with this seat keeps is so
abbrev pub IsQueue : Seat (Option Thing) View → Queue → Type 0
IsQueue s a = IsSubmitterSeat s a.ring a.next a.ages.items a.facts.items × KnowsChains s.me.0 a.ring a.next a.done a.hosted

-- the facts are those of a request of this generation, and its chain continues after it
abbrev pub continues : Facts → ℕ → Bool
continues f g = (f.generation == g) && ((f.links_soft || f.links_hard) && not f.last)

-- they are the same, but for the request up to which all chains have replied
abbrev pub SameQueue : Queue → Queue → Type 0
SameQueue a b = b ≡ record a { done = b.done }

-- the seat looked n times, and made no other step
abbrev pub Watched : ℕ → View → View → Type 0
Watched zero v w = w ≡ v
Watched (suc n) v w = (m : View) × Watched n v m × Looks m w × ((word : ℕ) × (found : ℕ) × IsStep word found m w)

-- the ring's requests from the first number on, up to the second, had been reaped
abbrev pub WereReaped : View → ℕ → ℕ → ℕ → Type 0
WereReaped v ring from to = (k : ℕ) → from ≤ k → k < to → IsReaped (phase (events_of v.seen) (nth ring k))

-- each request of the ring that is linked to the one before it was reaped
abbrev pub LinkedAreReaped : List Event → ℕ → Type 0
LinkedAreReaped h ring = (k : ℕ) → k < submits h ring → joins (before_in h (nth ring k)) ≡ true → IsReaped (phase h (nth ring k))

-- it is where the ring's k-th request lies
pub record IsCellOf (K : List ℕ) (ring k : ℕ) (s : Cell) : Type 0 where
  pub inside : IsCell K s.index
  pub small : s.index < 16384
  pub number_is : s.number ≡ place_of K s.index
  pub at : request_at K s.index s.generation ≡ nth ring k

-- the seat is one of this table, whose rings have these cells
pub record IsOver (table : TableId) (K : List ℕ) (s : Seat (Option Thing) View) : Type 0 where
  pub table_is : s.table_id ≡ table
  pub cells_are : K ≡ s.me.0.layout.cells
  pub wide : table.words ≡ words_of (total K)

-- the cells of the ring's next requests, this many of them, are free
abbrev pub AreFree : List ℕ → View → ℕ → ℕ → ℕ → Type 0
AreFree K v ring next count = (i : ℕ) → i < count → IsFree K (events_of v.seen) (nth ring (next + i))

-- the cell of the ring's request k is free where all chains of those before it that had the cells are done, and then its own are, too
abbrev pub IsFreeAfter : Queue → List ℕ → ℕ → Type 0
IsFreeAfter a K k = (s : Seat (Option Thing) View) (d : ℕ) → IsQueue s (record a { done = d }) → K ≡ s.me.0.layout.cells → k ≤ d + cells_in K a.ring → IsFree K (events_of s.me.0.seen) (nth a.ring k) × ((e : ℕ) × (k < e + cells_in K a.ring) × IsQueue s (record a { done = e }))

-- the last step of the call was at a claim word of the ring's own cells
abbrev pub HasLookedAt : List ℕ → ℕ → Pass → Pass → Type 0
HasLookedAt K ring p q = (m : Req) × (m.ring ≡ ring) × Stepped K m p q

-- why the ring's next requests, from k on and this many, find no room, by the pass p that became q
abbrev pub RefusesRoom : List ℕ → ℕ → ℕ → ℕ → Pass → Pass → SubmitError → Type 0
RefusesRoom K ring k count p q Full = (cells_in K ring < count) ⊎ (((i : ℕ) × (i < count) × ¬ IsFree K (seen_of q) (nth ring (k + i))) × HasLookedAt K ring p q)
RefusesRoom K ring k count p q Spent = AreFree K q.view ring k count × ((i : ℕ) × (i < count) × ((k + i) / cells_in K ring ≡ LAST_GENERATION))
RefusesRoom K ring k count p q _ = ⊥
