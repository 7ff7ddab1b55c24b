-- What contracts see of a pass, and when it belongs to a board.
use Rattle.std.specs.Prelude.{◌≡◌, ◌≢◌, ℕ, suc, ◌+◌, ◌<◌, ◌≤◌, cond, true, false, List, [], ◌∷◌, ◌++◌, length, slice_index, vec_capacity, Bool, Option, Some, None}
use Rattle.atomic_table.specs.Seated.{TableId}
use Rattle.atomic_table.specs.declared.shared.Seat.{Seat}
use Rattle.claim.specs.declared.word.TheConstants.{GENERATIONS}
use Rattle.entry.specs.Entry.{Entry}
use Rattle.entry.specs.declared.op.Op.{Op}
use Rattle.entry.specs.declared.op.Op.TheVariants.{Nop}
use Rattle.history.specs.declared.req.Req.{Req}
use Rattle.history.specs.declared.event.Event.{Event}
use Rattle.history.specs.{is_timer, hit, nothing, phase, runs, IsReplied, flow, uses_at}
use Rattle.answers.specs.{IsPipe, UsesBoth}
use Rattle.steps.specs.declared.line.Laid.{Laid}
use Rattle.steps.specs.declared.line.Laid.TheVariants.{NoRequest}
use Rattle.steps.specs.declared.line.Line.{Line}
use Rattle.steps.specs.declared.slot.Submission.{Submission}
use Rattle.steps.specs.declared.slot.Thing.{Thing}
use Rattle.steps.specs.declared.slot.Thing.TheVariants.{Full}
use Rattle.steps.specs.declared.slot.WaitedPipe.{WaitedPipe}
use Rattle.steps.specs.declared.view.Role.{Role}
use Rattle.steps.specs.declared.view.Role.TheVariants.{Idle, Busy}
use Rattle.steps.specs.declared.view.Step.{Step}
use Rattle.steps.specs.declared.view.View.{View}
use Rattle.steps.specs.{Orderly, event_of, events_of, goes_out, holder, lays, lying, setup_of, IsCell, cells_in, request_at, total, claim_at, slot_at, word_of, IsSubmission, words_of, HasAlone, HasBoth, owns, IsStep, LiesIn}
use Rattle.history.specs.Legal.{Legal, IsPlacedAs}
use Rattle.claim.specs.declared.tag.Tag.TheVariants.{Ready}
use Rattle.work.specs.declared.lists.Lists.{Lists}
use Rattle.work.specs.declared.marks.Marks.{Marks}

-- the table that a pass is of, what it knows, and, of a worker, which requests its last run took, in the order of their numbers, and which it took along from the pipes that it gave back
pub record Pass : Type 0 where
  pub table : TableId
  pub view : View
  pub took : List Req
  pub woken : List Req

-- what the pass has seen of the history
abbrev pub seen_of : Pass → List Event
seen_of p = events_of p.view.seen

abbrev pub pass_of : Seat (Option Thing) View → Pass
pass_of s = record { table = s.table_id; view = s.me.0; took = []; woken = [] }

-- the pass is of this table, whose rings have this many cells, and which has this many pipes
pub record IsOn (table : TableId) (K : List ℕ) (pipes : ℕ) (p : Pass) : Type 0 where
  pub table_is : p.table ≡ table
  pub cells_are : p.view.layout.cells ≡ K
  pub pipes_are : length p.view.layout.caps ≡ pipes
  pub few : pipes ≤ 64
  pub wide : table.words ≡ words_of (total K)

-- an idle worker's seat: it has no request, and no slot
pub record IsIdleSeat (s : Seat (Option Thing) View) : Type 0 where
  pub role : s.me.0.role ≡ Idle
  pub parts : 0 < s.me.0.parts
  pub bare : s.me.1 ≡ []

-- each request of the ring before this number has replied
abbrev pub ArePast : List Line → ℕ → ℕ → Type 0
ArePast j ring n = (k : ℕ) → k < n → IsReplied (phase (events_of j) (record { ring = ring; k = k }))

abbrev pub mark_of : Marks → ℕ → ℕ
mark_of m ring = slice_index m.numbers.items ring

-- each request of a ring before the ring's mark has replied
abbrev pub AreMarked : Marks → List Line → Type 0
AreMarked m j = (ring : ℕ) → ArePast j ring (mark_of m ring)

-- there is room for all cells of a ring but one, whichever ring it is
abbrev pub HasRoom : List ℕ → ℕ → Type 0
HasRoom K room = (i : ℕ) → cells_in K i ≤ suc room

-- and in the lists of those that are taken along from a pipe for all cells of the board
abbrev pub HasRooms : List ℕ → Lists → Type 0
HasRooms K lists = HasRoom K (vec_capacity lists.took) × (vec_capacity lists.source ≡ total K) × (vec_capacity lists.woken ≡ total K)

-- which requests were taken along
abbrev pub woken_of : Lists → List Req
woken_of lists = lists.source.items ++ lists.woken.items

-- none yet
abbrev pub AreIdle : Lists → Type 0
AreIdle lists = (lists.source.items ≡ []) × (lists.woken.items ≡ [])

-- of those that lay with a pipe: where there was an answer all go out, else r is laid down so, and lies there from then on
abbrev pub Settled : Laid → Req → Bool → List Req → List Req → List Req → Type 0
Settled laid r true old new out = (new ≡ []) × (out ≡ old)
Settled laid r false old new out = (new ≡ lays laid r old) × (out ≡ goes_out laid old) × LiesIn (lays laid r old) r

-- who is among these is not laid down again
abbrev pub IsLaidOnce : Laid → Req → List Req → Type 0
IsLaidOnce laid r old = LiesIn old r → laid ≡ NoRequest

-- a list of requests that is empty, and has that room
abbrev pub IsSpare : List ℕ → List Req → ℕ → Type 0
IsSpare K took room = (took ≡ []) × HasRoom K room

-- a messenger's seat: it has no part, no work and no slot
pub record IsMessengerSeat (s : Seat (Option Thing) View) : Type 0 where
  pub role : s.me.0.role ≡ Idle
  pub bare : s.me.1 ≡ []

-- the pass is of this table, where the cell is
pub record CanReach (table : TableId) (p : Pass) (x : ℕ) : Type 0 where
  pub table_is : p.table ≡ table
  pub cell : (x < 16384) × IsCell p.view.layout.cells x × (claim_at x + 7 < table.words)

-- a worker that runs a request, as contracts see it, the requests that its last run took, and those that it took along
pub record Running : Type 0 where
  pub pass : Pass
  pub req : Req
  pub took : List Req
  pub woken : List Req

-- the view of a worker that runs the request r of this cell and generation, whose submission is p, on a board of this many pipes; r is no timer
pub record RunsIt (table : TableId) (v : View) (x g : ℕ) (r : Req) (p : Submission) (pipes : ℕ) : Type 0 where
  pub req_is : request_at v.layout.cells x g ≡ r
  pub fits : (x < 16384) × IsCell v.layout.cells x × (claim_at x + 7 < table.words) × (g < GENERATIONS)
  pub pipes_are : (length v.layout.caps ≡ pipes) × (pipes ≤ 64)
  pub role : v.role ≡ Busy r
  pub parts : 0 < v.parts
  pub submission : IsSubmission v.seen r [] p
  pub kind : IsPlacedAs (events_of v.seen) r is_timer false
  pub orderly : Orderly v.layout v.seen
  pub legal : Legal (setup_of v.layout) (events_of v.seen)

-- by what was seen the request runs
abbrev pub IsUnderway : View → Req → Type 0
IsUnderway v r = phase (events_of v.seen) r ≡ runs

-- how many notes a worker reads to know what a request asks for: of a NOP its facts and its user_data, of any other its facts
abbrev pub notes_read : Op → ℕ
notes_read Nop = 2
notes_read _ = 1

-- its table has the cells of the rings that have this many each
pub record IsGridOf (table : TableId) (K : List ℕ) (v : View) : Type 0 where
  pub cells_are : v.layout.cells ≡ K
  pub wide : table.words ≡ words_of (total K)

-- the submission with the operation and the user_data of this entry
abbrev pub with_asked : Submission → Entry → Submission
with_asked p e = record p { sqe = record p.sqe { user_data = e.user_data; op = e.op } }

-- what a worker has of the request that it runs. If that is a cancel, it has neither taken a request nor found one running, and there is room for a list of those that it takes
pub record IsTask (table : TableId) (K : List ℕ) (s : Seat (Option Thing) View) (x g : ℕ) (r : Req) (p : Submission) (pipes : ℕ) (lists : Lists) : Type 0 where
  pub table_is : s.table_id ≡ table
  pub grid : IsGridOf table K s.me.0
  pub runs : RunsIt table s.me.0 x g r p pipes
  pub unhit : hit (events_of s.me.0.seen) r ≡ nothing
  pub spare : HasRooms K lists
  pub marked : AreMarked lists.marks s.me.0.seen

-- the same, with no held pipe
pub record IsBusySeat (table : TableId) (K : List ℕ) (s : Seat (Option Thing) View) (x g : ℕ) (r : Req) (p : Submission) (pipes : ℕ) (lists : Lists) : Type 0 where
  pub task : IsTask table K s x g r p pipes lists
  pub out : s.me.1 ≡ (slot_at x, Some (Full p)) ∷ []
  pub bare : (n : ℕ) → holder s.me.0.seen n ≢ Some r

-- those lie with the held pipe that do by what was seen, and there is a place for each cell
abbrev pub LiesAs : List ℕ → View → ℕ → WaitedPipe → Type 0
LiesAs K v n c = (c.lying.items ≡ lying v.seen n) × (vec_capacity c.lying ≡ total K)

-- the same with a held pipe that the entry is answered from, as what was seen tells, and no other
pub record IsHoldingSeat (table : TableId) (K : List ℕ) (s : Seat (Option Thing) View) (x g : ℕ) (r : Req) (p : Submission) (pipes n : ℕ) (c : WaitedPipe) (lists : Lists) : Type 0 where
  pub task : IsTask table K s x g r p pipes lists
  pub out : s.me.1 ≡ (n, None) ∷ (slot_at x, Some (Full p)) ∷ []
  pub alone : HasAlone s.me.0.seen n r
  pub named : (uses_at p.sqe.op n ≡ true) × (n < pipes)
  pub pipe_is : IsPipe (slice_index s.me.0.layout.caps n) c.pipe (flow (events_of s.me.0.seen) n)
  pub lying_is : LiesAs K s.me.0 n c
  pub idle : AreIdle lists

-- a worker that runs a request and has this pipe of the board in hand, as contracts see it
pub record Holding : Type 0 where
  pub pass : Pass
  pub req : Req
  pub pipe : ℕ

-- the same with both held pipes that the entry joins, and no other
pub record IsJoiningSeat (table : TableId) (K : List ℕ) (s : Seat (Option Thing) View) (x g : ℕ) (r : Req) (p : Submission) (pipes a b : ℕ) (c d : WaitedPipe) (lists : Lists) : Type 0 where
  pub task : IsTask table K s x g r p pipes lists
  pub out : s.me.1 ≡ (b, None) ∷ (a, None) ∷ (slot_at x, Some (Full p)) ∷ []
  pub both : HasBoth s.me.0.seen a b r
  pub named : UsesBoth p.sqe.op pipes a b
  pub source_is : IsPipe (slice_index s.me.0.layout.caps a) c.pipe (flow (events_of s.me.0.seen) a)
  pub target_is : IsPipe (slice_index s.me.0.layout.caps b) d.pipe (flow (events_of s.me.0.seen) b)
  pub source_lies : LiesAs K s.me.0 a c
  pub target_lies : LiesAs K s.me.0 b d
  pub idle : AreIdle lists

-- a worker that runs a request and has both of its pipes, as contracts see it
pub record Joining : Type 0 where
  pub pass : Pass
  pub req : Req
  pub source : ℕ
  pub target : ℕ

-- the events of these lines that only a pass with this role can cause, the newest first
abbrev pub own_of : Role → List Line → List Event
own_of role [] = []
own_of role (l ∷ j) = cond (owns role l) (event_of l (own_of role j)) (own_of role j)

-- the seat made exactly n steps more
abbrev pub Took : View → View → ℕ → Type 0
Took old new n = (steps : List Step) × (length steps ≡ n) × (new.steps ≡ steps ++ old.steps)

-- the last step of the pass read this word, and found this there
abbrev pub LastStep : View → View → ℕ → ℕ → Type 0
LastStep old new word found = IsStep word found old new

-- the request's claim word was found not to be Ready, by the one step that the pass took
abbrev pub FoundNotReady : List ℕ → Req → View → View → Type 0
FoundNotReady K r old new = (x : ℕ) × (g : ℕ) × (n : ℕ) × IsCell K x × (request_at K x g ≡ r) × LastStep old new (claim_at x) n × (n ≢ word_of Ready 0 g 0)
