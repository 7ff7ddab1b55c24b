-- The rule: one legal history that agrees with all words, and of which each seat has seen a beginning that lacks none of the seat's own lines.
use Rattle.std.specs.Prelude.{◌≡◌, ◌≢◌, ℕ, suc, ◌-◌, ◌+◌, ◌<◌, ◌≤◌, ◌⊎◌, Bool, true, false, not, ◌==◌, ◌&&◌, nat_le, nat_lt, ℤ, List, [], ◌∷◌, ◌++◌, length, slice_index, Option, Some}
use mathlib.Core.Option.{some}
use lib.ListN.{get_elem?}
use Rattle.atomic_table.specs.Table.{State}
use Rattle.atomic_table.specs.Seated.{TableId}
use Rattle.atomic_table.specs.declared.shared.Seat.{Seat}
use Rattle.history.specs.declared.req.Req.{Req}
use Rattle.history.specs.declared.event.Event.{Event}
use Rattle.history.specs.declared.event.Event.TheVariants.{Submit, Begin, Park, Reply, Take, Miss, Reap}
use Rattle.history.specs.{Cause, same, phase, runs, replied, reaped, submits, clock_of, was_shut, IsReplied, IsPlaced}
use Rattle.claim.specs.declared.tag.Tag.TheVariants.{Done}
use Rattle.entry.specs.Entry.{Entry, fails}
use Rattle.history.specs.Legal.{Legal}
use Rattle.steps.specs.declared.line.Line.{Line}
use Rattle.steps.specs.declared.line.Line.TheVariants.{Did, Freed, Lent, Noted, Hold, Free}
use Rattle.steps.specs.declared.slot.Thing.{Thing}
use Rattle.steps.specs.declared.view.Heard.{Heard}
use Rattle.steps.specs.declared.view.Layout.{Layout}
use Rattle.steps.specs.declared.view.Role.{Role}
use Rattle.steps.specs.declared.view.Role.TheVariants.{Poller, Submitter, Lending, Idle, Busy, Leaving, Parting, Spent}
use Rattle.steps.specs.declared.view.Step.{Step}
use Rattle.steps.specs.declared.view.View.{View}
use Rattle.steps.specs.Fairness.{Orderly, IsFree}
use Rattle.steps.specs.Notes.{outcome_of}
use Rattle.steps.specs.Journal.{events_of, lent, noted, holder}
use Rattle.steps.specs.Cells.{setup_of, IsCell, ring_of, request_at, note_at, facts_at, claim_at, pipe_at, slot_at, CellOk, PipeOk, Home, word_of, reply_bits, cause_bits, slots_of, words_of}

-- whose a line is: a seat of no other kind makes it. What a worker does with a pipe is the line of who may have that pipe for its request
pub data Owner : Type 0 where
  nobody : Owner
  pollers : Owner
  rings : ℕ → Owner
  workers : Req → Owner
  holders : Req → ℕ → Owner

abbrev pub owner : Line → Owner
owner (Did (Submit r e bytes last)) = rings r.ring
owner (Did (Begin r)) = nobody
owner (Did (Park r)) = workers r
owner (Did (Reply r res data')) = workers r
owner (Did (Take c t)) = workers c
owner (Did (Miss c t)) = workers c
owner (Did (Reap r)) = rings r.ring
owner (Did e) = pollers
owner (Freed r) = pollers
owner (Lent r word value) = rings r.ring
owner (Noted r word value) = rings r.ring
owner (Hold r p) = holders r p
owner (Free r p laid) = holders r p

-- from the ring n on the poller stands in for the submitters
abbrev pub stands_for : Role → Owner → Bool
stands_for (Poller n) pollers = true
stands_for (Poller n) (rings i) = nat_le n i
stands_for (Submitter l) (rings i) = l == i
stands_for (Lending r) (rings i) = r.ring == i
stands_for (Busy r) (workers q) = same q r
stands_for (Busy r) (holders q p) = same q r
stands_for (Leaving r) (workers q) = same q r
stands_for (Leaving r) (holders q p) = same q r
stands_for (Parting r n) (workers q) = same q r
stands_for (Parting r n) (holders q p) = same q r && (n == p)
stands_for _ _ = false

abbrev pub owns : Role → Line → Bool
owns role l = stands_for role (owner l)

-- two seats may have these roles
abbrev pub apart : Role → Role → Bool
apart (Poller n) (Poller m) = false
apart (Poller n) (Submitter i) = nat_lt i n
apart (Submitter i) (Poller n) = nat_lt i n
apart (Submitter i) (Submitter l) = not (i == l)
apart (Poller n) (Lending r) = nat_lt r.ring n
apart (Lending r) (Poller n) = nat_lt r.ring n
apart (Submitter i) (Lending r) = not (i == r.ring)
apart (Lending r) (Submitter i) = not (r.ring == i)
apart (Lending r) (Lending q) = not (r.ring == q.ring)
apart (Busy r) (Busy q) = not (same r q)
apart (Busy r) (Leaving q) = not (same r q)
apart (Leaving r) (Busy q) = not (same r q)
apart (Leaving r) (Leaving q) = not (same r q)
apart (Busy r) (Parting q p) = not (same r q)
apart (Leaving r) (Parting q p) = not (same r q)
apart (Parting r n) (Busy q) = not (same r q)
apart (Parting r n) (Leaving q) = not (same r q)
apart (Parting r n) (Parting q p) = not (same r q)
apart _ _ = true

abbrev pub NoneOf : Role → List Line → Type 0
NoneOf role [] = Unit {0}
NoneOf role (l ∷ j) = (owns role l ≡ false) × NoneOf role j

-- j begins with `seen` and continues without this role's own lines
pub record Saw (role : Role) (seen j : List Line) : Type 0 where
  pub later : List Line
  pub is : j ≡ later ++ seen
  pub none : NoneOf role later

abbrev pub Begins : List Line → List Line → Type 0
Begins j seen = (later : List Line) × (j ≡ later ++ seen)

-- each of these steps was made at a beginning of this journal: the journal after it is one
abbrev pub AreMade : List Line → List Step → Type 0
AreMade seen [] = Unit {0}
AreMade seen (s ∷ l) = Begins seen s.seen × AreMade seen l

abbrev pub IsHeard : Heard → List Heard → Type 0
IsHeard x [] = ⊥
IsHeard x (y ∷ ys) = (y ≡ x) ⊎ IsHeard x ys

-- j begins with all that was heard
abbrev pub AllBegin : List Line → List Heard → Type 0
AllBegin j xs = (x : Heard) → IsHeard x xs → Begins j x.seen

-- and continues without own lines of those whose it was
abbrev pub AllSaw : List Line → List Heard → Type 0
AllSaw j xs = (x : Heard) → IsHeard x xs → Saw x.role x.seen j

-- the role `gone` of a seat that was taken in: it is no worker's, and a seat with the role `role` stays apart from it
abbrev pub IsGone : Role → Role → Type 0
IsGone gone role = (apart role gone ≡ true) × ((q : Req) → stands_for gone (workers q) ≡ false)

-- the worker has answered the request, and still has a pipe
abbrev pub is_leaving : Role → Req → Bool
is_leaving (Leaving r) q = same q r
is_leaving (Parting r p) q = same q r
is_leaving _ q = false

pub record SeatOk (L : Layout) (j : List Line) (v : View) : Type 0 where
  pub layout : v.role ≢ Spent → v.layout ≡ L
  pub saw : Saw v.role v.seen j
  pub made : AreMade v.seen v.steps
  pub heard : AllSaw j v.heard
  pub busy : (r : Req) → v.role ≡ Busy r → (0 < v.parts) × (phase (events_of v.seen) r ≡ runs)
  pub leaving : (r : Req) → is_leaving v.role r ≡ true → (0 < v.parts) × IsReplied (phase (events_of v.seen) r)
  pub lending : (r : Req) → v.role ≡ Lending r → 0 < v.parts

abbrev pub parts_of : List View → ℕ
parts_of [] = 0
parts_of (v ∷ vs) = v.parts + parts_of vs

-- some seat runs the request
abbrev pub IsRunBy : List View → Req → Type 0
IsRunBy vs q = (i : ℕ) × (v : View) × (get_elem? vs i ≡ some v) × (v.role ≡ Busy q)

-- some seat has the pipe p, which the request's worker took
abbrev pub IsHeldBy : List View → Req → ℕ → Type 0
IsHeldBy vs q p = (i : ℕ) × (v : View) × (get_elem? vs i ≡ some v) × (stands_for v.role (holders q p) ≡ true)

-- some seat has the slot of the request's cell
abbrev pub IsLentBy : List View → Req → Type 0
IsLentBy vs q = (i : ℕ) × (v : View) × (get_elem? vs i ≡ some v) × (v.role ≡ Lending q)

-- the seat has seen all of these events, or was told of them. A pipe that was given back after its reply is seen by nobody, so journals may go on further
abbrev pub IsOneOf : List Event → List Heard → Type 0
IsOneOf h [] = ⊥
IsOneOf h (x ∷ xs) = (events_of x.seen ≡ h) ⊎ IsOneOf h xs

abbrev pub Knows : View → List Event → Type 0
Knows v h = (events_of v.seen ≡ h) ⊎ IsOneOf h v.heard

-- what holds between any two steps
pub record Ruled (L : Layout) (s : State (Option Thing) View) : Type 0 where
  pub past : List Line
  pub legal : Legal (setup_of L) (events_of past)
  pub live : was_shut (events_of past) ≡ false
  pub orderly : Orderly L past
  pub wide : (x : ℕ) → IsCell L.cells x → claim_at x + 7 < length s.words
  pub deep : (x : ℕ) → IsCell L.cells x → slot_at x < length s.homes
  pub room : (words_of 0 ≤ length s.words) × (slots_of 0 ≤ length s.homes)
  pub cells : (x : ℕ) → IsCell L.cells x → CellOk L.cells past x (slice_index s.words (claim_at x)) (get_elem? s.homes (slot_at x))
  pub notes : (x i : ℕ) → IsCell L.cells x → i < 7 → slice_index s.words (note_at x i) ≡ noted past (note_at x i)
  pub clock : slice_index s.words 0 ≡ clock_of (events_of past)
  pub pipes : (p : ℕ) → p < 64 → PipeOk L past p (slice_index s.words (pipe_at p)) (get_elem? s.homes p)
  pub seats : (i : ℕ) (v : View) → get_elem? s.views i ≡ some v → SeatOk L past v
  pub roles : (i l : ℕ) (v w : View) → get_elem? s.views i ≡ some v → get_elem? s.views l ≡ some w → ¬ (i ≡ l) → apart v.role w.role ≡ true
  pub gone : (i l : ℕ) (v w : View) → get_elem? s.views i ≡ some v → get_elem? s.views l ≡ some w → (x : Heard) → IsHeard x v.heard → IsGone x.role w.role
  pub run : (q : Req) → phase (events_of past) q ≡ runs → IsRunBy s.views q
  pub held_by : (p : ℕ) (q : Req) → holder past p ≡ Some q → IsHeldBy s.views q p
  pub lent_by : (q : Req) → lent past q ≡ true → IsLentBy s.views q
  pub parts : parts_of s.views ≡ 9223372036854775808
  pub newest : (i : ℕ) × (v : View) × (get_elem? s.views i ≡ some v) × (0 < v.parts) × Knows v (events_of past)

abbrev pub opening_view : Layout → View
opening_view L = record { layout = L; role = Poller 0; parts = 9223372036854775808; seen = []; heard = []; steps = [] }

-- the view that has seen all of j
abbrev pub seeing : View → Role → List Line → List Step → View
seeing v role j t = record { layout = v.layout; role = role; parts = v.parts; seen = j; heard = []; steps = t }

-- the seat made one step more, after which it had seen all
abbrev pub IsStep : ℕ → ℕ → View → View → Type 0
IsStep word found v w = w.steps ≡ record { word = word; found = found; seen = w.seen } ∷ v.steps

-- the seat made two steps more, or three, at these words
abbrev pub IsTwoSteps : ℕ → ℕ → View → View → Type 0
IsTwoSteps first second v w = (mid : View) × ((n : ℕ) × IsStep first n v mid) × ((n : ℕ) × IsStep second n mid w)

abbrev pub IsThreeSteps : ℕ → ℕ → ℕ → View → View → Type 0
IsThreeSteps first second third v w = (mid : View) × ((n : ℕ) × IsStep first n v mid) × IsTwoSteps second third mid w

-- the seat made a step more at each of these words, in order, and then one at the last
abbrev pub AreSteps : List ℕ → ℕ → View → View → Type 0
AreSteps [] last v w = (n : ℕ) × IsStep last n v w
AreSteps (word ∷ words) last v w = (mid : View) × ((n : ℕ) × IsStep word n v mid) × AreSteps words last mid w

-- the seat saw the journal so far, which has no further line of its own
pub record Looks (v w : View) : Type 0 where
  pub now : List Line
  pub saw : Saw v.role v.seen now
  pub heard : AllBegin now v.heard
  pub legal : Legal (setup_of v.layout) (events_of now)
  pub live : was_shut (events_of now) ≡ false
  pub orderly : Orderly v.layout now
  pub steps : List Step
  pub made : AreMade now steps
  pub is : w ≡ seeing v v.role now steps

-- the seat saw the journal so far, and added the line l to it
pub record Extends (v : View) (l : Line) (role : Role) (w : View) : Type 0 where
  pub mid : List Line
  pub saw : Saw v.role v.seen mid
  pub heard : AllBegin mid v.heard
  pub legal : Legal (setup_of v.layout) (events_of (l ∷ mid))
  pub live : was_shut (events_of (l ∷ mid)) ≡ false
  pub orderly : Orderly v.layout (l ∷ mid)
  pub steps : List Step
  pub made : AreMade (l ∷ mid) steps
  pub is : w ≡ seeing v role (l ∷ mid) steps

-- the seat added two lines, and others may stand between
abbrev pub ExtendsTwice : View → Line → Role → Line → Role → View → Type 0
ExtendsTwice v k between l role w = (mid : View) × Extends v k between mid × Extends mid l role w

-- the seat, which has the slot of r's cell, stored these notes of r, each a word and its value, and then added the line l; others may stand between
abbrev pub ExtendsAfter : View → Req → List (ℕ × ℕ) → Line → Role → View → Type 0
ExtendsAfter v r [] l role w = Extends v l role w
ExtendsAfter v r (n ∷ notes) l role w = (mid : View) × Extends v (Noted r n.0 n.1) (Lending r) mid × ExtendsAfter mid r notes l role w

-- before that it took the slot, with a note of the facts
abbrev pub ExtendsNoted : View → Req → ℕ × ℕ → List (ℕ × ℕ) → Line → Role → View → Type 0
ExtendsNoted v r facts notes l role w = (mid : View) × Extends v (Lent r facts.0 facts.1) (Lending r) mid × ExtendsAfter mid r notes l role w

-- what a claim word tells
abbrev pub Shown : List ℕ → List Line → ℕ → ℕ → Type 0
Shown K j x word = (home : Home) × CellOk K j x word home

-- the cell is one of the seat's table
abbrev pub Fits : TableId → Seat (Option Thing) View → ℕ → Type 0
Fits table seat x = (seat.table_id ≡ table) × (x < 16384) × IsCell seat.me.0.layout.cells x × (claim_at x + 7 < table.words)

abbrev pub IsSameSeat : Seat (Option Thing) View → Seat (Option Thing) View → Type 0
IsSameSeat s t = (t.table_id ≡ s.table_id) × (t.id ≡ s.id)

-- the cell is Empty at generation g, and free, as its submitter knows
pub record Vacant (K : List ℕ) (seen : List Line) (x g : ℕ) : Type 0 where
  pub next : submits (events_of seen) (ring_of K x) ≤ (request_at K x g).k
  pub gone_by : (n : ℕ) → n < g → (c : Cause) × (res : ℤ) × (phase (events_of seen) (request_at K x n) ≡ reaped c res)
  pub free : IsFree K (events_of seen) (request_at K x g)

-- the claim word of a request that has replied
pub record IsDone (seen : List Line) (r : Req) (g word : ℕ) : Type 0 where
  pub cause : Cause
  pub res : ℤ
  pub entry : Entry
  pub bits : ℕ
  pub replied_is : phase (events_of seen) r ≡ replied cause res
  pub placed_is : IsPlaced (events_of seen) r entry
  pub bits_are : reply_bits res bits
  pub word_is : word ≡ word_of Done (cause_bits cause (fails entry res)) g bits

-- the facts of the request in the cell x with the outcome of its reply
abbrev pub IsOutcomeNote : List Line → Req → ℕ → ℕ → Type 0
IsOutcomeNote j r x value = (c : Cause) × (res : ℤ) × (e : Entry) × (phase (events_of j) r ≡ replied c res) × IsPlaced (events_of j) r e × (value ≡ outcome_of (noted j (facts_at x)) (fails e res))

-- how the poller's seat is cut: the submitter of the next ring leaves it, or a worker
abbrev pub next_poller : Role → Role
next_poller (Poller n) = Poller (suc n)
next_poller r = r

abbrev pub submitter_of : Role → Role
submitter_of (Poller n) = Submitter n
submitter_of r = Idle

abbrev pub without_next : View → View
without_next v = record v { role = next_poller v.role; parts = v.parts - 1 }

abbrev pub next_submitter : View → View
next_submitter v = record v { role = submitter_of v.role; parts = 1; heard = []; steps = [] }

abbrev pub without_one : View → View
without_one v = record v { parts = v.parts - 1 }

abbrev pub idle_one : View → View
idle_one v = record v { role = Idle; parts = 1; heard = []; steps = [] }

-- a seat with no part, which carries what another has seen
abbrev pub messenger : View → View
messenger v = record v { role = Idle; parts = 0; heard = []; steps = [] }

-- a seat hears what the other has seen, and the other is spent
abbrev pub hearing : View → View → View
hearing v w = record v { parts = v.parts + w.parts; heard = record { role = w.role; seen = w.seen } ∷ (w.heard ++ v.heard) }

-- a worker that has replied gives one of its two pipes back: it still has the pipe p alone, and has seen no more
abbrev pub leaves_one : Req → ℕ → ℕ → ℕ → View → View
leaves_one r p word found v = record v { role = Parting r p; steps = record { word = word; found = found; seen = v.seen } ∷ v.steps }

-- and gives back its pipe, or the last of them: it is idle, and has seen no more
abbrev pub leaves : ℕ → ℕ → View → View
leaves word found v = record v { role = Idle; steps = record { word = word; found = found; seen = v.seen } ∷ v.steps }

abbrev pub spent_view : View
spent_view = record { layout = record { cells = []; caps = [] }; role = Spent; parts = 0; seen = []; heard = []; steps = [] }

-- what the table is at the end, as the seat with this view knows it
pub record Ended (L : Layout) (v : View) (words : List ℕ) (slots : List (Option Thing)) : Type 0 where
  pub all : List Line
  pub legal : Legal (setup_of L) (events_of all)
  pub live : was_shut (events_of all) ≡ false
  pub orderly : Orderly L all
  pub seen : Saw v.role v.seen all
  pub heard : AllSaw all v.heard
  pub known : v.parts ≡ 9223372036854775808 → Knows v (events_of all)
  pub still : v.parts ≡ 9223372036854775808 → ((r : Req) → v.role ≢ Busy r) → (q : Req) → ¬ (phase (events_of all) q ≡ runs)
  pub unlent : v.parts ≡ 9223372036854775808 → ((r : Req) → v.role ≢ Lending r) → (q : Req) → ¬ (lent all q ≡ true)
  pub cells : (x : ℕ) → IsCell L.cells x → (home : Home) × CellOk L.cells all x (slice_index words (claim_at x)) home × ((y : Option Thing) → home ≡ some (some y) → get_elem? slots (slot_at x) ≡ some y)
