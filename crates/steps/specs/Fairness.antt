-- What each line of the journal asks for, beside that its history is legal: who may change a pipe, who is moved to Ready, when a cell continues to its next request, and what stands in its notes.
use Rattle.std.specs.Prelude.{◌≡◌, ◌⊎◌, ℕ, ◌+◌, ◌*◌, ◌%◌, ◌<◌, Bool, true, false, ℤ, List, [], ◌∷◌, Some, None}
use Rattle.claim.specs.declared.word.TheConstants.{GENERATIONS}
use Rattle.entry.specs.Entry.{Entry, fails}
use Rattle.history.specs.declared.req.Req.{Req}
use Rattle.history.specs.declared.event.Event.{Event}
use Rattle.history.specs.declared.event.Event.TheVariants.{Submit, Park, Reply, Reap}
use Rattle.history.specs.{Cause, Phase, unborn, waits, replied, reaped, Submitted, submission, phase, reply, hit, nothing, placed, Open, is_timer, is_timeout, IsPlaced, IsChainDone, OpAnswers, is_pipe, uses_at, uses_at_in, flow, IsPlacedAs, count_of}
use Rattle.steps.specs.declared.line.Laid.{Laid}
use Rattle.steps.specs.declared.line.Laid.TheVariants.{NoRequest}
use Rattle.steps.specs.declared.line.Line.{Line}
use Rattle.steps.specs.declared.line.Line.TheVariants.{Did, Freed, Lent, Noted, Hold, Free}
use Rattle.steps.specs.declared.view.Layout.{Layout}
use Rattle.steps.specs.Journal.{events_of, freed, lent, noted, holder}
use Rattle.steps.specs.Cells.{IsCell, cells_in, request_at, note_at, facts_at, user_at, count_at}
use Rattle.steps.specs.Notes.{facts_of, outcome_of}

abbrev pub IsReaped : Phase → Type 0
IsReaped (reaped c res) = Unit {0}
IsReaped _ = ⊥

-- the cell of the request r is free for it: the request that had the cell before was reaped, and its whole chain has replied
abbrev pub IsFree : List ℕ → List Event → Req → Type 0
IsFree K h r = (q : Req) → q.ring ≡ r.ring → q.k + cells_in K r.ring ≡ r.k → IsReaped (phase h q) × IsChainDone h q

-- the request is the one of generation g in the cell x
abbrev pub IsIn : List ℕ → Req → ℕ → ℕ → Type 0
IsIn K r x g = IsCell K x × (request_at K x g ≡ r)

-- the count of a TIMEOUT is noted
abbrev pub IsCountNoted : List Line → ℕ → Entry → Type 0
IsCountNoted j x d = is_timeout d.op ≡ true → noted j (count_at x) ≡ count_of d.op

-- the notes of the request's cell are those of its entry, as it is placed
abbrev pub AreNoted : List ℕ → List Line → Req → Entry → List ℕ → Bool → Type 0
AreNoted K j r e bytes last = (x : ℕ) × (g : ℕ) × (d : Entry) × IsIn K r x g × IsPlaced (Submit r e bytes last ∷ events_of j) r d × (noted j (facts_at x) ≡ facts_of g d last) × (noted j (user_at x) ≡ e.user_data) × IsCountNoted j x d

-- what the notes of the cell x say of its request of generation g, which was handed in as y and is placed as d: its facts, or, once its slot is out for the Reap, its facts with the outcome; its user_data; and the count of a TIMEOUT
pub record NotesSay (K : List ℕ) (j : List Line) (x g : ℕ) (y : Submitted) (d : Entry) : Type 0 where
  pub facts : lent j (request_at K x g) ≡ false → noted j (facts_at x) ≡ facts_of g d y.last
  pub outcome : (c : Cause) (res : ℤ) → phase (events_of j) (request_at K x g) ≡ replied c res → lent j (request_at K x g) ≡ true → noted j (facts_at x) ≡ outcome_of (facts_of g d y.last) (fails d res)
  pub user_data : noted j (user_at x) ≡ y.entry.user_data
  pub count : IsCountNoted j x d

-- the same of the request of the cell that was submitted and not reaped
abbrev pub NotesTell : List ℕ → List Line → ℕ → Type 0
NotesTell K j x = (g : ℕ) (y : Submitted) (d : Entry) → submission (events_of j) (request_at K x g) ≡ Some y → IsPlaced (events_of j) (request_at K x g) d → ¬ IsReaped (phase (events_of j) (request_at K x g)) → NotesSay K j x g y d

-- what the facts of the cell x say of its request of generation g once that was reaped: while they are its own they have its outcome, and once they are another one's its whole chain has replied
pub record FactsLeft (K : List ℕ) (j : List Line) (x g : ℕ) (y : Submitted) (d : Entry) : Type 0 where
  pub outcome : (res : ℤ) → reply (events_of j) (request_at K x g) ≡ Some res → noted j (facts_at x) % GENERATIONS ≡ g → noted j (facts_at x) ≡ outcome_of (facts_of g d y.last) (fails d res)
  pub done : ¬ (noted j (facts_at x) % GENERATIONS ≡ g) → IsChainDone (events_of j) (request_at K x g)

-- the same of each request of the cell that was reaped
abbrev pub FactsTell : List ℕ → List Line → ℕ → Type 0
FactsTell K j x = (g : ℕ) (y : Submitted) (d : Entry) → g < GENERATIONS → submission (events_of j) (request_at K x g) ≡ Some y → IsPlaced (events_of j) (request_at K x g) d → IsReaped (phase (events_of j) (request_at K x g)) → FactsLeft K j x g y d

-- a store of the facts takes the slot: of a request that comes to a cell that is free for it, or of one that has replied, with the outcome
abbrev pub IsFactsNote : List ℕ → List Line → Req → ℕ → ℕ → Phase → Type 0
IsFactsNote K j r word value unborn = (x : ℕ) × (g : ℕ) × (n : ℕ) × IsIn K r x g × (g < GENERATIONS) × (word ≡ facts_at x) × (value ≡ g + GENERATIONS * n) × IsFree K (events_of j) r
IsFactsNote K j r word value (replied c res) = (x : ℕ) × (g : ℕ) × (e : Entry) × IsIn K r x g × (g < GENERATIONS) × (word ≡ facts_at x) × IsPlaced (events_of j) r e × (value ≡ outcome_of (noted j (facts_at x)) (fails e res))
IsFactsNote K j r word value _ = ⊥

-- the request has no answer, and its entry names the pipe p
abbrev pub HasNone : List ℕ → List Event → Req → ℕ → Type 0
HasNone caps h r p = (e : Entry) × IsPlaced h r e × (uses_at e.op p ≡ true) × ((res : ℤ) (data' : List ℕ) → ¬ OpAnswers caps h r e.op res data')

-- at some moment it had none, and since then the pipe p is as it was
abbrev pub HasWaited : List ℕ → Req → ℕ → List Event → Type 0
HasWaited caps r p [] = ⊥
HasWaited caps r p (e ∷ h) = HasNone caps (e ∷ h) r p ⊎ ((flow (e ∷ h) p ≡ flow h p) × HasWaited caps r p h)

-- what may be laid down with the pipe p, as its worker gives it back
abbrev pub MayLay : List ℕ → List Event → Req → ℕ → Laid → Type 0
MayLay caps h r p NoRequest = Unit {0}
MayLay caps h r p _ = HasWaited caps r p h

-- only who has a pipe of the board changes it or gives it back, and nobody takes it from him; with it a request is laid down that waits for it; only what waits, is open and is a worker's to run is moved to Ready, and once; a cell continues only when it is free, and its notes go on with it; a request is reaped by who has its slot; a cancel that took a request, or found one running, is not put back
abbrev pub Fair : Layout → List Line → Line → Type 0
Fair L j (Did (Submit r e bytes last)) = IsFree L.cells (events_of j) r × AreNoted L.cells j r e bytes last
Fair L j (Did (Reply r res data')) = (p : ℕ) → is_pipe L.caps p ≡ true → uses_at_in (placed (events_of j) r) p ≡ true → holder j p ≡ Some r
Fair L j (Did (Park r)) = hit (events_of j) r ≡ nothing
Fair L j (Did (Reap r)) = lent j r ≡ true
Fair L j (Freed r) = (phase (events_of j) r ≡ waits) × Open (events_of j) r × IsPlacedAs (events_of j) r is_timer false × (freed j r ≡ false)
Fair L j (Lent r word value) = IsFactsNote L.cells j r word value (phase (events_of j) r)
Fair L j (Noted r word value) = (x : ℕ) × (g : ℕ) × (i : ℕ) × IsIn L.cells r x g × ((0 < i) × (i < 3)) × (word ≡ note_at x i) × (phase (events_of j) r ≡ unborn) × IsFree L.cells (events_of j) r
Fair L j (Hold r p) = holder j p ≡ None
Fair L j (Free r p laid) = (holder j p ≡ Some r) × MayLay L.caps (events_of j) r p laid
Fair L j _ = Unit {0}

abbrev pub Orderly : Layout → List Line → Type 0
Orderly L [] = Unit {0}
Orderly L (l ∷ j) = Fair L j l × Orderly L j
