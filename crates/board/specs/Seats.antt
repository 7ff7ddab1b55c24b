-- What is true of the seats of the poller and of the submitters between two calls.
use Rattle.std.specs.Prelude.{◌≡◌, ℕ, ◌*◌, ◌<◌, ◌≤◌, false, List, [], Option, length, slice_index}
use Rattle.atomic_table.specs.declared.shared.Seat.{Seat}
use Rattle.board.specs.declared.queue.TheConstants.{LAST_GENERATION}
use Rattle.history.specs.declared.req.Req.{Req}
use Rattle.history.specs.History.{phase, submits}
use Rattle.history.specs.Legal.{Legal}
use Rattle.steps.specs.declared.line.Line.{Line}
use Rattle.steps.specs.declared.slot.Thing.{Thing}
use Rattle.steps.specs.declared.view.Role.TheVariants.{Poller, Submitter}
use Rattle.steps.specs.declared.view.View.{View}
use Rattle.work.specs.Passes.{Pass, seen_of}
use Rattle.steps.specs.{IsReaped, events_of, lent, noted, setup_of, IsCell, ring_of, place_of, cells_in, request_at, facts_at}

pub record IsPollerSeat (s : Seat (Option Thing) View) : Type 0 where
  pub role : s.me.0.role ≡ Poller (length s.me.0.layout.cells)
  pub bare : s.me.1 ≡ []

-- what a submitter knows of a cell of its ring: how many requests of the cell it has reaped, and the facts that it noted last
pub record KnowsCell (K : List ℕ) (j : List Line) (x age facts : ℕ) : Type 0 where
  pub gone : (n : ℕ) → n < age → IsReaped (phase (events_of j) (request_at K x n))
  pub left : (n : ℕ) → age ≤ n → ¬ IsReaped (phase (events_of j) (request_at K x n))
  pub facts_are : facts ≡ noted j (facts_at x)

-- the same of all cells of the ring, by their places in it
abbrev pub KnowsCells : List ℕ → List Line → ℕ → List ℕ → List ℕ → Type 0
KnowsCells K j ring ages facts = (x : ℕ) → IsCell K x → ring_of K x ≡ ring → KnowsCell K j x (slice_index ages (place_of K x)) (slice_index facts (place_of K x))

-- the submitter of the ring knows its next request and its cells, and has no slot
pub record IsSubmitterSeat (s : Seat (Option Thing) View) (ring next : ℕ) (ages facts : List ℕ) : Type 0 where
  pub role : s.me.0.role ≡ Submitter ring
  pub bare : s.me.1 ≡ []
  pub ring_there : ring < length s.me.0.layout.cells
  pub next_is : next ≡ submits (events_of s.me.0.seen) ring
  pub narrow : cells_in s.me.0.layout.cells ring ≤ 1024
  pub few : next ≤ LAST_GENERATION * cells_in s.me.0.layout.cells ring
  pub unlent : (q : Req) → q.ring ≡ ring → lent s.me.0.seen q ≡ false
  pub many : (length ages ≡ cells_in s.me.0.layout.cells ring) × (length facts ≡ cells_in s.me.0.layout.cells ring)
  pub legal : Legal (setup_of s.me.0.layout) (events_of s.me.0.seen)
  pub knows : KnowsCells s.me.0.layout.cells s.me.0.seen ring ages facts

-- the cell with this number in its ring is the one of the ring's next request, of this generation
pub record IsNextCell (p : Pass) (cell number generation : ℕ) : Type 0 where
  pub inside : IsCell p.view.layout.cells cell
  pub number_is : number ≡ place_of p.view.layout.cells cell
  pub mine : p.view.role ≡ Submitter (ring_of p.view.layout.cells cell)
  pub next_is : (request_at p.view.layout.cells cell generation).k ≡ submits (seen_of p) (ring_of p.view.layout.cells cell)
