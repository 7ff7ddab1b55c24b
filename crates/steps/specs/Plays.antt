-- What each kind of step tells its seat.
use Rattle.std.specs.Prelude.{◌≡◌, ◌≢◌, ℕ, suc, ◌<◌, Bool, true, false, ℤ, List, [], ◌∷◌, length, Option, Some, None}
use Rattle.atomic_table.specs.Table.{Me, Step, rest}
use Rattle.atomic_table.specs.Seated.{TableId}
use Rattle.atomic_table.specs.declared.shared.Seat.{Seat}
use Rattle.claim.specs.declared.word.TheConstants.{GENERATIONS}
use Rattle.claim.specs.declared.tag.Tag.{Tag}
use Rattle.claim.specs.declared.tag.Tag.TheVariants.{Held, Ready, Running, Armed, Done}
use Rattle.entry.specs.Entry.{Entry}
use Rattle.history.specs.declared.req.Req.{Req}
use Rattle.history.specs.declared.event.Event.TheVariants.{Submit, Begin, Park, Reply, Take, Miss, Tick, Arm, Expire, Count, Fire, FireMiss, Settle, Sever, Reap}
use Rattle.history.specs.{Cause, phase, replied, data_of, submission, IsPlaced, Flow, contents, flow, flows_as, OpAnswers, is_pipe, uses_at}
use Rattle.steps.specs.declared.line.Laid.{Laid}
use Rattle.steps.specs.declared.line.Line.{Line}
use Rattle.steps.specs.declared.line.Line.TheVariants.{Did, Freed, Lent, Noted, Hold, Free}
use Rattle.steps.specs.declared.slot.Submission.{Submission}
use Rattle.steps.specs.declared.slot.WaitedPipe.{WaitedPipe}
use Rattle.steps.specs.declared.slot.Thing.{Thing}
use Rattle.steps.specs.declared.slot.Thing.TheVariants.{Full, Piped}
use Rattle.steps.specs.declared.view.Layout.{Layout}
use Rattle.steps.specs.declared.view.Role.{Role}
use Rattle.steps.specs.declared.view.Role.TheVariants.{Submitter, Lending, Idle, Busy, Leaving, Parting}
use Rattle.steps.specs.declared.view.View.{View}
use Rattle.steps.specs.Journal.{events_of, noted, holder, lays, lying}
use Rattle.steps.specs.Cells.{IsCell, request_at, word_of, claim_at, note_at, facts_at, pipe_at, slot_at, reply_bits, IsSubmission, stands, PipeIs}
use Rattle.steps.specs.Rule.{Looks, Extends, Shown, Vacant, IsStep, leaves, leaves_one}

abbrev pub Seated : Type 0
Seated = Me (Option Thing) View

abbrev pub At : Type 0
At = Step (Option Thing)

-- of a load: the history so far, what the claim word says of it, and that a note word has what was stored there last
abbrev pub looked : At → Seated → ℕ → Seated → Type 0
looked st m n m' = Looks m.0 m'.0 × (m'.1 ≡ m.1) × ((x : ℕ) → st.word ≡ claim_at x → IsCell m.0.layout.cells x → Shown m.0.layout.cells m'.0.seen x n) × IsStep st.word n m.0 m'.0

abbrev pub noticed : At → Seated → ℕ → Seated → Type 0
noticed st m n m' = Looks m.0 m'.0 × (m'.1 ≡ m.1) × ((x i : ℕ) → st.word ≡ note_at x i → IsCell m.0.layout.cells x → i < 7 → n ≡ noted m'.0.seen (note_at x i)) × IsStep st.word n m.0 m'.0

-- of an exchange of a claim word with this tag: P of the cell and the request where it was found, else what a load tells
abbrev pub tried : Tag → (At → Seated → ℕ → Req → Seated → Type 0) → At → Seated → ℕ → Seated → Type 0
tried tag P st m n m' =
    (n ≡ st.first → (x g p : ℕ) → st.word ≡ claim_at x → IsCell m.0.layout.cells x → g < GENERATIONS → p < 4294967296 → st.first ≡ word_of tag 0 g p → P st m x (request_at m.0.layout.cells x g) m')
    × (n ≢ st.first → looked st m n m') × IsStep st.word n m.0 m'.0

-- the tag of a request that was submitted, has no reply and does not run
abbrev pub is_idle : Tag → Bool
is_idle Held = true
is_idle Ready = true
is_idle Armed = true
is_idle _ = false

-- the word of such a request of generation g
abbrev pub IsIdleWord : ℕ → ℕ → Type 0
IsIdleWord g word = (t : Tag) × (p : ℕ) × (is_idle t ≡ true) × (p < 4294967296) × (word ≡ word_of t 0 g p)

-- of an exchange of the word of a request that is not running: P where it was found so, Q where a refused exchange found it Running, else what a load tells. A cancel and a firing step so
abbrev pub tried_idle : (At → Seated → ℕ → Req → Seated → Type 0) → (At → Seated → ℕ → Req → Seated → Type 0) → At → Seated → ℕ → Seated → Type 0
tried_idle P Q st m n m' =
    (n ≡ st.first → (x g : ℕ) → st.word ≡ claim_at x → IsCell m.0.layout.cells x → g < GENERATIONS → IsIdleWord g st.first → P st m x (request_at m.0.layout.cells x g) m')
    × ((x g : ℕ) → st.word ≡ claim_at x → IsCell m.0.layout.cells x → g < GENERATIONS → IsIdleWord g st.first → n ≡ word_of Running 0 g 0 → Q st m x (request_at m.0.layout.cells x g) m')
    × (n ≢ st.first → ((x g : ℕ) → st.word ≡ claim_at x → g < GENERATIONS → IsIdleWord g st.first → n ≢ word_of Running 0 g 0) → looked st m n m') × IsStep st.word n m.0 m'.0

-- of an exchange of a claim word that is known: P of the cell and the request
abbrev pub sure : Tag → (At → Seated → ℕ → Req → Seated → Type 0) → At → Seated → ℕ → Seated → Type 0
sure tag P st m n m' = (n ≡ st.first) × ((x c g p : ℕ) → st.word ≡ claim_at x → IsCell m.0.layout.cells x → c < 16 → g < GENERATIONS → p < 4294967296 → st.first ≡ word_of tag c g p → P st m x (request_at m.0.layout.cells x g) m') × IsStep st.word n m.0 m'.0

abbrev pub released : At → Seated → ℕ → Req → Seated → Type 0
released st m x r m' = Extends m.0 (Freed r) m.0.role m'.0 × (m'.1 ≡ m.1)

abbrev pub severed : At → Seated → ℕ → Req → Seated → Type 0
severed st m x r m' = Extends m.0 (Did (Sever r)) m.0.role m'.0 × (m'.1 ≡ m.1)

-- the new word has the deadline
abbrev pub armed_for : At → Seated → ℕ → Req → Seated → Type 0
armed_for st m x r m' = (g d : ℕ) → g < GENERATIONS → d < 4294967296 → st.second ≡ word_of Armed 0 g d → Extends m.0 (Did (Arm r d)) m.0.role m'.0 × (m'.1 ≡ m.1)

abbrev pub expired : At → Seated → ℕ → Req → Seated → Type 0
expired st m x r m' = Extends m.0 (Did (Expire r)) m.0.role m'.0 × (m'.1 ≡ m.1)

abbrev pub counted : At → Seated → ℕ → Req → Seated → Type 0
counted st m x r m' = Extends m.0 (Did (Count r)) m.0.role m'.0 × (m'.1 ≡ m.1)

abbrev pub settled : At → Seated → ℕ → Req → Seated → Type 0
settled st m x r m' = Extends m.0 (Did (Settle r)) m.0.role m'.0 × (m'.1 ≡ m.1)

-- the request after this one in its ring, whose target it is if that is a LINK_TIMEOUT
abbrev pub request_after : Req → Req
request_after r = record { ring = r.ring; k = suc r.k }

abbrev pub fired_at : At → Seated → ℕ → Req → Seated → Type 0
fired_at st m x r m' = Extends m.0 (Did (Fire (request_after r) r)) m.0.role m'.0 × (m'.1 ≡ m.1)

abbrev pub fired_late : At → Seated → ℕ → Req → Seated → Type 0
fired_late st m x r m' = Extends m.0 (Did (FireMiss (request_after r) r)) m.0.role m'.0 × (m'.1 ≡ m.1)

-- a cancel that the seat runs takes the request, or finds it running
abbrev pub taken : At → Seated → ℕ → Req → Seated → Type 0
taken st m x r m' = (c : Req) → m.0.role ≡ Busy c → Extends m.0 (Did (Take c r)) m.0.role m'.0 × (m'.1 ≡ m.1)

abbrev pub missed : At → Seated → ℕ → Req → Seated → Type 0
missed st m x r m' = (c : Req) → m.0.role ≡ Busy c → Extends m.0 (Did (Miss c r)) m.0.role m'.0 × (m'.1 ≡ m.1)

-- of a store of the clock's word: the time that is stored
abbrev pub clock_set : At → Seated → ℕ → Seated → Type 0
clock_set st m n m' = st.word ≡ 0 → (Extends m.0 (Did (Tick st.first)) m.0.role m'.0 × (m'.1 ≡ m.1)) × ((found : ℕ) × IsStep st.word found m.0 m'.0)

-- the slot has what was handed in, with these data over its front
abbrev pub Hands : Seated → ℕ → Req → List ℕ → List (ℕ × Option Thing) → Type 0
Hands m x r data' others = (p : Submission) × (m.1 ≡ (slot_at x, Some (Full p)) ∷ others) × IsSubmission m.0.seen r data' p

abbrev pub began : At → Seated → ℕ → Req → Seated → Type 0
began st m x r m' = Extends m.0 (Did (Begin r)) (Busy r) m'.0 × Hands m' x r [] m.1 × ((p : ℕ) → holder m'.0.seen p ≢ Some r)

-- the slot that was taken last is given back with the submission
abbrev pub submitted : At → Seated → ℕ → Req → Seated → Type 0
submitted st m x r m' = (p : Submission) → m.1 ≡ (slot_at x, Some (Full p)) ∷ rest m.1 → Extends m.0 (Did (Submit r p.sqe p.buffer.items p.last)) (Submitter r.ring) m'.0 × (m'.1 ≡ rest m.1)

-- the new word has the result, which is the entry's reply with these data; the seat has this role after it
abbrev pub replied_with : (Req → Role) → At → Seated → ℕ → Req → Seated → Type 0
replied_with after st m x r m' = (g c b : ℕ) (res : ℤ) (e : Entry) (data' : List ℕ) → g < GENERATIONS → c < 16 → b < 4294967296 → reply_bits res b → st.second ≡ word_of Done c g b
    → IsPlaced (events_of m.0.seen) r e → OpAnswers m.0.layout.caps (events_of m.0.seen) r e.op res data' → Extends m.0 (Did (Reply r res data')) (after r) m'.0 × (m'.1 ≡ rest m.1)

abbrev pub parked : At → Seated → ℕ → Req → Seated → Type 0
parked st m x r m' = Extends m.0 (Did (Park r)) Idle m'.0 × (m'.1 ≡ rest m.1)

abbrev pub reaps : At → Seated → ℕ → Req → Seated → Type 0
reaps st m x r m' = Extends m.0 (Did (Reap r)) (Submitter r.ring) m'.0 × (m'.1 ≡ rest m.1)

-- of a store of the facts before the Submit of generation g: the empty slot is taken
abbrev pub opened : At → Seated → ℕ → Seated → Type 0
opened st m n m' = (x g : ℕ) → st.word ≡ facts_at x → IsCell m.0.layout.cells x → Vacant m.0.layout.cells m.0.seen x g → (Extends m.0 (Lent (request_at m.0.layout.cells x g) st.word st.first) (Lending (request_at m.0.layout.cells x g)) m'.0 × (m'.1 ≡ (slot_at x, None) ∷ m.1)) × ((found : ℕ) × IsStep st.word found m.0 m'.0)

-- of a store of another note before the Submit, by who has the slot of the request's cell
abbrev pub noted_more : At → Seated → ℕ → Seated → Type 0
noted_more st m n m' = (r : Req) → m.0.role ≡ Lending r → (Extends m.0 (Noted r st.word st.first) m.0.role m'.0 × (m'.1 ≡ m.1)) × ((found : ℕ) × IsStep st.word found m.0 m'.0)

-- of a store of the facts with the outcome before the Reap of generation g: the slot is taken, with the buffer and the data
abbrev pub emptied : At → Seated → ℕ → Seated → Type 0
emptied st m n m' = (x g : ℕ) (c : Cause) (res : ℤ) → st.word ≡ facts_at x → IsCell m.0.layout.cells x → phase (events_of m.0.seen) (request_at m.0.layout.cells x g) ≡ replied c res
    → (Extends m.0 (Lent (request_at m.0.layout.cells x g) st.word st.first) (Lending (request_at m.0.layout.cells x g)) m'.0 × Hands m' x (request_at m.0.layout.cells x g) (data_of (events_of m.0.seen) (request_at m.0.layout.cells x g)) m.1) × ((found : ℕ) × IsStep st.word found m.0 m'.0)

-- the worker of q has the pipe p, and no other
abbrev pub HasAlone : List Line → ℕ → Req → Type 0
HasAlone j p q = (holder j p ≡ Some q) × ((n : ℕ) → n ≢ p → holder j n ≢ Some q)

-- the worker of q has the pipes p and n, and no other
abbrev pub HasBoth : List Line → ℕ → ℕ → Req → Type 0
HasBoth j p n q = (p ≢ n) × (holder j p ≡ Some q) × (holder j n ≡ Some q) × ((m : ℕ) → m ≢ p → m ≢ n → holder j m ≢ Some q)

-- by what was seen the pipe is what it was, and those lie there that did
abbrev pub IsSamePipe : View → View → ℕ → Type 0
IsSamePipe v w p = stands w.seen p ≡ stands v.seen p

-- the pipe is in this hand, above those, and is this
abbrev pub HasPipeAs : Layout → List (ℕ × Option Thing) → ℕ → List (ℕ × Option Thing) → Flow × List Req → Type 0
HasPipeAs L hand p others w = (c : WaitedPipe) × (hand ≡ (p, Some (Piped c)) ∷ others) × PipeIs L p (Some (Piped c)) w

-- the pipe is in the seat's hand, as what it has seen tells
abbrev pub HasPipe : Seated → ℕ → List (ℕ × Option Thing) → Type 0
HasPipe m p others = HasPipeAs m.0.layout m.1 p others (stands m.0.seen p)

-- the same with what the worker of q lays down there
abbrev pub HasPipeLaid : Seated → ℕ → Req → Laid → Type 0
HasPipeLaid m p q laid = HasPipeAs m.0.layout m.1 p (rest m.1) (flow (events_of m.0.seen) p, lays laid q (lying m.0.seen p))

-- the same, as the reply res to q, placed as e, will make it: nobody lies there
abbrev pub HasPipeAfter : Seated → ℕ → Req → Entry → ℤ → Type 0
HasPipeAfter m p q e res = HasPipeAs m.0.layout (rest m.1) p (rest (rest m.1)) (flows_as (Some e) (submission (events_of m.0.seen) q) (contents (events_of m.0.seen)) res p (flow (events_of m.0.seen) p), [])

-- the same of two pipes, of which n lies under p
abbrev pub HasPipesAfter : Seated → ℕ → ℕ → Req → Entry → ℤ → Type 0
HasPipesAfter m p n q e res = HasPipeAfter m p q e res × HasPipeAfter (m.0, rest m.1) n q e res

-- the table has a clock
abbrev pub FitsClock : TableId → Seat (Option Thing) View → Type 0
FitsClock table seat = (seat.table_id ≡ table) × (0 < table.words)

-- the pipe is one of the seat's table
abbrev pub FitsPipe : TableId → Seat (Option Thing) View → ℕ → Type 0
FitsPipe table seat p = (seat.table_id ≡ table) × (p < 64) × (p < length seat.me.0.layout.caps) × (pipe_at p < table.words)

-- of an exchange of a pipe's word: the pipe was at home and is taken, or else another worker has it
abbrev pub pipe_taken : At → Seated → ℕ → Seated → Type 0
pipe_taken st m n m' =
    (n ≡ st.first → (p : ℕ) (q : Req) → st.word ≡ pipe_at p → p < length m.0.layout.caps → m.0.role ≡ Busy q → Extends m.0 (Hold q p) m.0.role m'.0 × HasPipe m' p m.1)
    × (n ≢ st.first → Looks m.0 m'.0 × (m'.1 ≡ m.1) × ((p : ℕ) → st.word ≡ pipe_at p → (o : Req) × (holder m'.0.seen p ≡ Some o))) × IsStep st.word n m.0 m'.0

-- of a store at a pipe's word by a worker that has the pipe and has not replied: it is given back, with its request or without
abbrev pub pipe_returned : Laid → At → Seated → ℕ → Seated → Type 0
pipe_returned laid st m n m' = (p : ℕ) (q : Req) → st.word ≡ pipe_at p → m.0.role ≡ Busy q → holder m.0.seen p ≡ Some q → Extends m.0 (Free q p laid) m.0.role m'.0 × (m'.1 ≡ rest m.1) × ((found : ℕ) × IsStep st.word found m.0 m'.0)

-- the same by a worker that has replied: it saw no more than its reply
abbrev pub pipe_left : At → Seated → ℕ → Seated → Type 0
pipe_left st m n m' = (p : ℕ) (q : Req) → st.word ≡ pipe_at p → m.0.role ≡ Leaving q → holder m.0.seen p ≡ Some q → (found : ℕ) × (m'.0 ≡ leaves st.word found m.0) × (m'.1 ≡ rest m.1)

-- the same by a worker that has two pipes, and keeps the other for its last step
abbrev pub pipe_left_first : At → Seated → ℕ → Seated → Type 0
pipe_left_first st m n m' = (p kept : ℕ) (q : Req) → st.word ≡ pipe_at p → m.0.role ≡ Leaving q → HasBoth m.0.seen p kept q → (found : ℕ) × (m'.0 ≡ leaves_one q kept st.word found m.0) × (m'.1 ≡ rest m.1)

-- and of that other
abbrev pub pipe_left_last : At → Seated → ℕ → Seated → Type 0
pipe_left_last st m n m' = (p : ℕ) (q : Req) → st.word ≡ pipe_at p → m.0.role ≡ Parting q p → (found : ℕ) × (m'.0 ≡ leaves st.word found m.0) × (m'.1 ≡ rest m.1)

-- the seat may reply so to the request in the cell x: this is the answer, the data lie over the front of the buffer in hand, and it has each pipe that the entry names, if it is one of the board's
pub record MayReply (m : Seated) (x : ℕ) (q : Req) (e : Entry) (res : ℤ) (data' : List ℕ) : Type 0 where
  pub placed_is : IsPlaced (events_of m.0.seen) q e
  pub answers : OpAnswers m.0.layout.caps (events_of m.0.seen) q e.op res data'
  pub has : (p : ℕ) → is_pipe m.0.layout.caps p ≡ true → uses_at e.op p ≡ true → holder m.0.seen p ≡ Some q
  pub submission : Hands m x q data' (rest m.1)
