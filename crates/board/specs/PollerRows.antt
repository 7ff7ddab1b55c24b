-- What the poller knows of the requests of each ring, and what it finds out for a release.
use Rattle.std.specs.Prelude.{◌≡◌, ◌⊎◌, ℕ, suc, ◌==◌, ◌||◌, not, cond, ◌+◌, ◌-◌, ◌*◌, ◌<◌, ◌≤◌, Bool, true, false, ℤ, negsuc, List, [], ◌∷◌, ◌++◌, length, slice_get, Option, Some, None}
use Rattle.atomic_table.specs.declared.shared.Seat.{Seat}
use Rattle.claim.specs.declared.word.TheConstants.{GENERATIONS}
use Rattle.claim.specs.Facts.{Facts as FactsParts}
use Rattle.entry.specs.Entry.{Entry, fails, drains, links_soft, links_hard, is_link_timeout}
use Rattle.gates.specs.{Kept, Stands, HasCell, added, waiting, Trails, ArePlain, IsPlainAt, HaveGoneOn, Slot}
use Rattle.history.specs.declared.req.Req.{Req}
use Rattle.history.specs.declared.event.Event.{Event}
use Rattle.history.specs.declared.event.Event.TheVariants.{Park, Sever}
use Rattle.history.specs.{phase, submits, waits, replied, by_sever, reply, same, IsReplied, IsPlaced, IsChainDone, IsBefore, IsChainBefore, IsLinkTimeout, Severed, Open, is_timer, IsPlacedAs}
use Rattle.steps.specs.declared.line.Line.{Line}
use Rattle.steps.specs.declared.slot.Thing.{Thing}
use Rattle.steps.specs.declared.view.Step.{Step}
use Rattle.steps.specs.declared.view.View.{View}
use Rattle.steps.specs.{TellsFacts, events_of, freed, IsCell, cells_in, request_at, claim_at, Begins, IsStep, Shown}
use Rattle.work.specs.{Facts, IsOf, Pass, pass_of, seen_of, steps_at}
use Rattle.board.specs.Calls.{Goes, Stepped, FoundHeld, IsHeld, IsUnheld, MayStart}
use Rattle.board.specs.Seats.{IsPollerSeat}
use Rattle.board.specs.declared.looks.Outcome.{Outcome}
use Rattle.board.specs.declared.looks.Outcome.TheVariants.{Pending, Replied, ChainDone}
use Rattle.board.specs.declared.gating.Passing.{Passing}
use Rattle.board.specs.declared.gating.Passing.TheVariants.{Waits, Passed, Lost}
use Rattle.board.specs.declared.gating.Gating.{Gating}
use Rattle.board.specs.declared.gating.Round.{Round}
use Rattle.board.specs.declared.poller.Released.{Released}
use Rattle.board.specs.declared.poller.Released.TheVariants.{NotHeld}

-- the row has the cells of the ring, and trails the history; as many requests as it notes are plain
pub record KnowsRow (K : List ℕ) (j : List Line) (ring : ℕ) (r : Kept) : Type 0 where
  pub size : r.size ≡ cells_in K ring
  pub slots : List Slot
  pub stands : Stands slots r
  pub trails : Trails (events_of j) ring slots
  pub plain : ArePlain (events_of j) ring r.plain

-- the same of each ring's row
pub record KnowsRows (K : List ℕ) (j : List Line) (rows : List Kept) : Type 0 where
  pub count : length rows ≡ length K
  pub each : (i : ℕ) (r : Kept) → slice_get rows i ≡ Some r → KnowsRow K j i r

-- the row has the request q, and is right of it whether it has replied or not: it trails the history with q put back too. A LINK_TIMEOUT waits still, since nobody else ends it
pub record Watches (K : List ℕ) (j : List Line) (q : Req) (r : Kept) : Type 0 where
  pub cell : HasCell r q.k
  pub knows : KnowsRow K j q.ring r
  pub parked : Trails (Park q ∷ events_of j) q.ring knows.slots
  pub timer : IsLinkTimeout (events_of j) q → phase (events_of j) q ≡ waits

-- the number of one of the requests that a ring's cells may have
pub record IsNumbered (K : List ℕ) (q : Req) : Type 0 where
  pub there : q.ring < length K
  pub few : q.k < GENERATIONS * cells_in K q.ring

-- the request has this cell, as this generation
pub record IsAt (K : List ℕ) (cell generation : ℕ) (q : Req) : Type 0 where
  pub inside : IsCell K cell × (cell < 16384)
  pub at : request_at K cell generation ≡ q

-- the poller's seat, whose pass is one of this board's own
pub record IsOurs (b : Facts) (s : Seat (Option Thing) View) : Type 0 where
  pub ours : IsOf b (pass_of s)
  pub seat : IsPollerSeat s

-- the poller's seat, and a request that has this cell and was submitted
pub record IsSubmitted (b : Facts) (s : Seat (Option Thing) View) (cell generation : ℕ) (q : Req) : Type 0 where
  pub ours : IsOurs b s
  pub at : IsAt b.layout.cells cell generation q
  pub small : generation < GENERATIONS
  pub numbered : IsNumbered b.layout.cells q
  pub born : q.k < submits (events_of s.me.0.seen) q.ring

-- the poller's seat looked, any number of times
pub record Watched (b : Facts) (s t : Seat (Option Thing) View) : Type 0 where
  pub seat : IsPollerSeat t
  pub goes : Goes b (pass_of s) [] (pass_of t)
  pub freed_is : (q : Req) → freed t.me.0.seen q ≡ freed s.me.0.seen q

-- the steps that were made between the two views are paid by what was owed before and isn't after
abbrev pub Paid : View → View → ℕ → ℕ → Type 0
Paid v w after before = (steps : List Step) × (w.steps ≡ steps ++ v.steps) × (length steps + after ≤ before)

-- how many of these steps were made at other words than this
abbrev pub steps_elsewhere : ℕ → List Step → ℕ
steps_elsewhere word [] = 0
steps_elsewhere word (s ∷ l) = cond (s.word == word) 0 1 + steps_elsewhere word l

-- of the steps that were made between the two views, at most this many were at the request's claim word, and this many at other words
pub record Spends (K : List ℕ) (r : Req) (v w : View) (own others : ℕ) : Type 0 where
  pub steps : List Step
  pub is : w.steps ≡ steps ++ v.steps
  pub at_own : (x g : ℕ) → IsCell K x → request_at K x g ≡ r → steps_at (claim_at x) steps ≤ own
  pub at_others : (x g : ℕ) → IsCell K x → request_at K x g ≡ r → steps_elsewhere (claim_at x) steps ≤ others

-- the one step that was made between them was at the request's claim word
abbrev pub StepsTo : List ℕ → Req → View → View → Type 0
StepsTo K r v w = (x : ℕ) × (g : ℕ) × (n : ℕ) × IsCell K x × (request_at K x g ≡ r) × IsStep (claim_at x) n v w

-- how many steps it takes at most until the row has the first n requests, and has passed all that are pending in it
abbrev pub owed : Kept → ℕ → ℕ
owed r n = 4 * (n - added r) + 3 * waiting r

-- and those of another generation
abbrev pub ToldFacts : List Event → Req → Option FactsParts → Type 0
ToldFacts h q (Some w) = TellsFacts h q w
ToldFacts h q None = IsChainDone h q

-- nothing in the entry makes it wait for others, or others wait for it
abbrev pub is_plain : Entry → Bool
is_plain e = not (((drains e || links_soft e) || links_hard e) || is_link_timeout e.op)

-- the row noted the request q as plain too, if it is, and all before it are
pub record Notes (h : List Event) (q : Req) (k l : Kept) (plain : Bool) : Type 0 where
  pub same : l ≡ record k { plain = l.plain }
  pub before : ArePlain h q.ring k.plain → ArePlain h q.ring l.plain
  pub here : plain ≡ true → IsPlainAt h q

-- the request's reply fails, or not
abbrev pub HasOutcome : List Event → Req → Bool → Type 0
HasOutcome h q f = (e : Entry) × (res : ℤ) × IsPlaced h q e × (reply h q ≡ Some res) × (fails e res ≡ f)

-- what looks at a request tell of its reply. The last look at one that has none was at its claim word
abbrev pub TellsOutcome : List ℕ → Req → Pass → Pass → Outcome → Type 0
TellsOutcome K r p q Pending = (¬ IsReplied (phase (seen_of q) r)) × Stepped K r p q
TellsOutcome K r p q (Replied f) = HasOutcome (seen_of q) r f
TellsOutcome K r p q ChainDone = IsChainDone (seen_of q) r

abbrev pub looks_for : Outcome → ℕ
looks_for Pending = 1
looks_for _ = 2

-- the events that the poller causes by a release
abbrev pub severed_by : Released → Req → List Event
severed_by Released.Severed r = Sever r ∷ []
severed_by _ r = []

-- the poller answered the request itself, since an earlier member of its chain failed
abbrev pub IsCanceled : List Event → Req → Type 0
IsCanceled h r = (phase h r ≡ replied by_sever (negsuc 124)) × Severed h r

-- the request waits for this one of its ring, at whose claim word the last step of the call found no reply
abbrev pub WaitsFor : List ℕ → Pass → Pass → Req → Req → Type 0
WaitsFor K p q r w = IsBefore w r × (¬ IsReplied (phase (seen_of q) w)) × Stepped K w p q

-- a step of this call, at the request's claim word, found no reply of it, by all that the pass had seen after that step
pub record FoundPending (K : List ℕ) (r : Req) (p q : Pass) : Type 0 where
  pub cell : ℕ
  pub gen : ℕ
  pub found : ℕ
  pub seen : List Line
  pub later : List Step
  pub others : List Step
  pub cell_is : IsCell K cell × (request_at K cell gen ≡ r)
  pub steps : q.view.steps ≡ later ++ (record { word = claim_at cell; found = found; seen = seen } ∷ (others ++ p.view.steps))
  pub shown : Shown K seen cell found
  pub pending : ¬ IsReplied (phase (events_of seen) r)

-- a step of this call, at the request's claim word, found it Held: by all that the pass had seen after that step it waited, and
-- wasn't moved to Ready
pub record WasHeld (K : List ℕ) (r : Req) (p q : Pass) : Type 0 where
  pub cell : ℕ
  pub gen : ℕ
  pub found : ℕ
  pub seen : List Line
  pub later : List Step
  pub others : List Step
  pub cell_is : IsCell K cell × (request_at K cell gen ≡ r)
  pub steps : q.view.steps ≡ later ++ (record { word = claim_at cell; found = found; seen = seen } ∷ (others ++ p.view.steps))
  pub within : Begins seen p.view.seen × Begins q.view.seen seen
  pub shown : Shown K seen cell found
  pub held : IsHeld seen r

-- each earlier member of r's chain has replied and not ended it; or one had no reply when this call looked, and those after it have
-- replied and not ended it
abbrev pub IsUnended : List ℕ → Req → Pass → Pass → Type 0
IsUnended K r p q = HaveGoneOn (seen_of q) r 0 ⊎ ((w : Req) × IsChainBefore (seen_of q) w r × FoundPending K w p q × HaveGoneOn (seen_of q) r (suc w.k))

-- it is not open, and waits for another
abbrev pub IsBlocked : List ℕ → Req → Pass → Pass → Type 0
IsBlocked K r p q = (¬ Open (seen_of q) r) × ((w : Req) × WaitsFor K p q r w)

-- and nobody before it in its chain ends that, as far as this call may tell
abbrev pub IsShutOut : List ℕ → Req → Pass → Pass → Type 0
IsShutOut K r p q = IsBlocked K r p q × IsUnended K r p q

-- it is a timer that waits and may be armed
abbrev pub MayArm : List Event → Req → Type 0
MayArm h r = (phase h r ≡ waits) × Open h r × (¬ Severed h r) × IsPlacedAs h r is_timer true

-- what a release says of a request that was found Held, by its answer
abbrev pub Decided : Facts → Req → Pass → Pass → Released → Type 0
Decided b r p q Released.Severed = IsCanceled (seen_of q) r × FoundHeld b.layout.cells r p q
Decided b r p q Released.Freed = (freed q.view.seen r ≡ true) × MayStart q.view.seen r × FoundHeld b.layout.cells r p q
Decided b r p q Released.Shut = IsShutOut b.layout.cells r p q
Decided b r p q Released.Timer = MayArm (seen_of q) r
Decided b r p q NotHeld = IsUnheld q.view.seen r × Stepped b.layout.cells r p q

-- what became of the pass that released r
pub record Decides (b : Facts) (r : Req) (p q : Pass) (x : Released) : Type 0 where
  pub goes : Goes b p (severed_by x r) q
  pub decided : Decided b r p q x
  pub was_free : x ≡ Released.Freed → freed p.view.seen r ≡ false
  pub others : (i : Req) → (x ≡ Released.Freed → same r i ≡ false) → freed q.view.seen i ≡ freed p.view.seen i

-- a look at the request w, which is in the way of r, took the seat from s to t and the row from k to l
abbrev pub Passes : Facts → Req → Req → Seat (Option Thing) View → Seat (Option Thing) View → Kept → Kept → Passing → Type 0
Passes b r w s t k l Waits = Watched b s t × Watches b.layout.cells t.me.0.seen r k × (l ≡ k) × TellsOutcome b.layout.cells w (pass_of s) (pass_of t) Pending × Paid s.me.0 t.me.0 0 1
Passes b r w s t k l Passed = Watched b s t × Watches b.layout.cells t.me.0.seen r l × (waiting l < waiting k) × Paid s.me.0 t.me.0 (3 * waiting l) (3 * waiting k)
Passes b r w s t k l Lost = Decides b r (pass_of s) (pass_of t) NotHeld × IsPollerSeat t × KnowsRow b.layout.cells t.me.0.seen r.ring l × Paid s.me.0 t.me.0 0 3

-- what is known of a request that was found Held, by whether it may start. The poller's seat looked, from s to t, and has the row l
abbrev pub Gated : Facts → Req → Seat (Option Thing) View → Seat (Option Thing) View → Kept → Gating → Type 0
Gated b r s t l Gating.Severed = Watched b s t × Watches b.layout.cells t.me.0.seen r l × Severed (events_of t.me.0.seen) r
Gated b r s t l Gating.Open = Watched b s t × Watches b.layout.cells t.me.0.seen r l × (¬ Severed (events_of t.me.0.seen) r) × Open (events_of t.me.0.seen) r
Gated b r s t l Gating.Linked = Watched b s t × Watches b.layout.cells t.me.0.seen r l × IsLinkTimeout (events_of t.me.0.seen) r × (¬ Severed (events_of t.me.0.seen) r) × Open (events_of t.me.0.seen) r
Gated b r s t l Gating.Shut = Watched b s t × Watches b.layout.cells t.me.0.seen r l × IsShutOut b.layout.cells r (pass_of s) (pass_of t)
Gated b r s t l Gating.Lost = Decides b r (pass_of s) (pass_of t) NotHeld × IsPollerSeat t × KnowsRow b.layout.cells t.me.0.seen r.ring l

-- the same, but where it is shut and the nearest of its chain was looked at already nothing is known of that one
abbrev pub Found : Facts → Req → Bool → Seat (Option Thing) View → Seat (Option Thing) View → Kept → Gating → Type 0
Found b r true s t l Gating.Shut = Watched b s t × Watches b.layout.cells t.me.0.seen r l × IsBlocked b.layout.cells r (pass_of s) (pass_of t)
Found b r false s t l Gating.Shut = Gated b r s t l Gating.Shut
Found b r looked s t l Gating.Severed = Gated b r s t l Gating.Severed
Found b r looked s t l Gating.Open = Gated b r s t l Gating.Open
Found b r looked s t l Gating.Linked = Gated b r s t l Gating.Linked
Found b r looked s t l Gating.Lost = Gated b r s t l Gating.Lost

-- what the last look at another request costs
abbrev pub costs_of : Gating → ℕ
costs_of Gating.Linked = 1
costs_of Gating.Shut = 1
costs_of Gating.Lost = 3
costs_of _ = 0

-- who is to be looked at next, where `first` is in the way and `link` is the nearest of its chain, and what it comes to without a reply
abbrev pub IsNextLook : ℕ → Option ℕ → Bool → ℕ → Round → Type 0
IsNextLook first link looked n x = ((x ≡ Round.Looked) × (link ≡ Some n) × (looked ≡ false)) ⊎ ((x ≡ Round.Decided Gating.Shut) × (n ≡ first) × ((p : ℕ) → link ≡ Some p → looked ≡ false → p ≡ first))

-- a step towards an answer for r took the seat from s to t and the row from k to l: it is there; or fewer requests are in the way;
-- or the nearest of its chain was found to have no reply
abbrev pub Advances : Facts → Req → Bool → Seat (Option Thing) View → Seat (Option Thing) View → Kept → Kept → Round → Type 0
Advances b r looked s t k l (Round.Decided x) = Found b r looked s t l x × Paid s.me.0 t.me.0 0 (costs_of x) × (0 < waiting k)
Advances b r looked s t k l Round.Passed = Watched b s t × Watches b.layout.cells t.me.0.seen r l × (waiting l < waiting k) × Paid s.me.0 t.me.0 (3 * waiting l) (3 * waiting k)
Advances b r looked s t k l Round.Looked = Watched b s t × Watches b.layout.cells t.me.0.seen r l × (l ≡ k) × (looked ≡ false) × IsUnended b.layout.cells r (pass_of s) (pass_of t) × Paid s.me.0 t.me.0 0 1

-- the steps that are owed for a look at the nearest of its chain
abbrev pub owed_back : Bool → ℕ
owed_back true = 0
owed_back false = 1

abbrev pub looks_of : Gating → ℕ
looks_of Gating.Severed = 0
looks_of Gating.Open = 0
looks_of _ = 1

-- the looks that its own place in the row pays, and that weren't needed
abbrev pub spared_by : Gating → ℕ
spared_by Gating.Severed = 2
spared_by Gating.Open = 2
spared_by _ = 0

-- the answer for r took the seat from s to t and the row from k to l
abbrev pub Gates : Facts → Req → Seat (Option Thing) View → Seat (Option Thing) View → Kept → Kept → Gating → Type 0
Gates b r s t k l x = Gated b r s t l x × Paid s.me.0 t.me.0 (spared_by x) (3 * waiting k + looks_of x)
