-- Where the cells of the rings and the pipes lie in the table, and what their words and slots say.
-- Word 0 is the clock, the words 1 to 64 are the pipes', and from word 72 on each cell has a line of eight: its claim word and seven note words. The slots 0 to 63 are the pipes', and then comes one a cell.
use Rattle.std.specs.Prelude.{◌≡◌, ℕ, suc, ◌+◌, ◌-◌, ◌*◌, ◌<◌, nat_lt, cond, Bool, true, false, List, [], ◌∷◌, ◌++◌, drop, length, ℤ, pos, negsuc, slice_index, vec_capacity, Option, Some, None}
use mathlib.Core.Option as maybe
use mathlib.Core.Option.{some}
use lib.ListN.{get_elem?}
use Rattle.claim.specs.declared.word.TheConstants.{GENERATIONS}
use Rattle.claim.specs.declared.tag.Tag.{Tag}
use Rattle.claim.specs.declared.tag.Tag.TheVariants.{Empty, Held, Ready, Running, Armed, Done}
use Rattle.claim.specs.Claim.{packed}
use Rattle.entry.specs.Entry.{Entry, fails}
use Rattle.history.specs.declared.req.Req.{Req}
use Rattle.history.specs.{Cause, by_reply, by_take, by_expire, by_count, by_fire, by_settle, by_sever, by_cut, submission, unborn, waits, runs, armed, replied, reaped, phase, data_of, is_timer, IsPlaced, Open, Flow, flow, content, untouched, Setup, IsPlacedAs}
use Rattle.steps.specs.declared.line.Line.{Line}
use Rattle.steps.specs.declared.slot.Submission.{Submission}
use Rattle.steps.specs.declared.slot.Thing.{Thing}
use Rattle.steps.specs.declared.slot.Thing.TheVariants.{Full, Piped}
use Rattle.steps.specs.declared.view.Layout.{Layout}
use Rattle.steps.specs.Journal.{events_of, freed, lent, holder, lying}

-- the group of rings that the board is
abbrev pub setup_of : Layout → Setup
setup_of L = record { rings = length L.cells; caps = L.caps }

abbrev pub claim_at : ℕ → ℕ
claim_at x = 8 * x + 72

-- the note word of the cell with this number
abbrev pub note_at : ℕ → ℕ → ℕ
note_at x i = 8 * x + (73 + i)

-- the facts of the cell's request stand here from before its Submit on, and from before its Reap on with the outcome
abbrev pub facts_at : ℕ → ℕ
facts_at x = note_at x 0

-- its user_data stands here from before its Submit on
abbrev pub user_at : ℕ → ℕ
user_at x = note_at x 1

-- and the count of a TIMEOUT here. The other two words are full, and no other entry pays a step for it
abbrev pub count_at : ℕ → ℕ
count_at x = note_at x 2

abbrev pub pipe_at : ℕ → ℕ
pipe_at p = p + 1

abbrev pub slot_at : ℕ → ℕ
slot_at x = x + 64

-- how many words and slots a table of this many cells has: it ends where the line and the slot of one more cell would be
abbrev pub words_of : ℕ → ℕ
words_of n = claim_at n

abbrev pub slots_of : ℕ → ℕ
slots_of n = slot_at n

-- the number of cells of the ring i, 0 where there is none
abbrev pub cells_in : List ℕ → ℕ → ℕ
cells_in K i = slice_index K i

abbrev pub total : List ℕ → ℕ
total [] = 0
total (n ∷ K) = n + total K

-- the ring of the cell x, and its place there: the cells are numbered from 0 in the order of the rings
abbrev pub ring_of : List ℕ → ℕ → ℕ
ring_of [] x = 0
ring_of (n ∷ K) x = cond (nat_lt x n) 0 (suc (ring_of K (x - n)))

abbrev pub place_of : List ℕ → ℕ → ℕ
place_of [] x = x
place_of (n ∷ K) x = cond (nat_lt x n) x (place_of K (x - n))

abbrev pub IsCell : List ℕ → ℕ → Type 0
IsCell K x = x < total K

-- the request of generation g in the cell x
abbrev pub request_at : List ℕ → ℕ → ℕ → Req
request_at K x g = record { ring = ring_of K x; k = g * cells_in K (ring_of K x) + place_of K x }

-- a claim word: tag, cause, generation and payload, one above the other
abbrev pub word_of : Tag → ℕ → ℕ → ℕ → ℕ
word_of tag cause gen payload = packed (record { tag = tag; cause = cause; generation = gen; payload = payload })

-- the 32 bits of a reply
abbrev pub reply_bits : ℤ → ℕ → Type 0
reply_bits (pos n) b = (n < 2147483648) × (b ≡ n)
reply_bits (negsuc n) b = (n < 2147483648) × (b + n + 1 ≡ 4294967296)

-- how a claim word names the event that answered: bit 3 says that the reply is a failure. No word names a Cut, which comes after the last step
abbrev pub cause_number : Cause → ℕ
cause_number by_reply = 1
cause_number by_take = 2
cause_number by_expire = 3
cause_number by_fire = 4
cause_number by_settle = 5
cause_number by_sever = 6
cause_number by_count = 7
cause_number by_cut = 0

abbrev pub cause_bits : Cause → Bool → ℕ
cause_bits c fails' = cause_number c + cond fails' 8 0

abbrev pub Home : Type 0
Home = maybe.Option (maybe.Option (Option Thing))

-- the first bytes are the data
abbrev pub over : List ℕ → List ℕ → List ℕ
over data' bytes = data' ++ drop (length data') bytes

-- the submission is what was handed in as r, with these data over the front of its buffer
abbrev pub IsSubmission : List Line → Req → List ℕ → Submission → Type 0
IsSubmission j r data' p = (bytes : List ℕ) × (submission (events_of j) r ≡ Some (record { entry = p.sqe; bytes = bytes; last = p.last })) × (p.buffer.items ≡ over data' bytes)

-- the slot is at home and has what was handed in
abbrev pub Keeps : List Line → Req → Home → List ℕ → Type 0
Keeps j r home data' = (p : Submission) × (home ≡ some (some (Some (Full p)))) × IsSubmission j r data' p

-- earlier generations were reaped, and later ones not yet submitted
pub record Ages (K : List ℕ) (j : List Line) (x g : ℕ) : Type 0 where
  pub before : (n : ℕ) → n < g → (c : Cause) × (res : ℤ) × (phase (events_of j) (request_at K x n) ≡ reaped c res)
  pub after : (n : ℕ) → g < n → phase (events_of j) (request_at K x n) ≡ unborn
  pub unfreed : (n : ℕ) → g < n → freed j (request_at K x n) ≡ false
  pub unlent : (n : ℕ) → g < n → lent j (request_at K x n) ≡ false

-- a worker may begin it
abbrev pub MayBegin : List Line → Req → Type 0
MayBegin j r = Open (events_of j) r × IsPlacedAs (events_of j) r is_timer false

module _ (j : List Line) (r : Req) (home : Home) (cause payload : ℕ) where
  -- what the word says of its request, by its tag
  abbrev pub Says : Tag → Type 0
  Says Empty = (cause ≡ 0) × (payload ≡ 0) × (phase (events_of j) r ≡ unborn) × (freed j r ≡ false) × (lent j r ≡ false → home ≡ some (some None))
  Says Held = (cause ≡ 0) × (payload ≡ 0) × (phase (events_of j) r ≡ waits) × (freed j r ≡ false) × (lent j r ≡ false) × Keeps j r home []
  Says Ready = (cause ≡ 0) × (payload ≡ 0) × (phase (events_of j) r ≡ waits) × (freed j r ≡ true) × (lent j r ≡ false) × Keeps j r home [] × MayBegin j r
  Says Running = (cause ≡ 0) × (payload ≡ 0) × (phase (events_of j) r ≡ runs) × (freed j r ≡ true) × (lent j r ≡ false) × MayBegin j r
  Says Armed = (cause ≡ 0) × (phase (events_of j) r ≡ armed payload) × (freed j r ≡ false) × (lent j r ≡ false) × Keeps j r home []
  Says Done = (c : Cause) × (res : ℤ) × (e : Entry) × (phase (events_of j) r ≡ replied c res) × reply_bits res payload × IsPlaced (events_of j) r e × (cause ≡ cause_bits c (fails e res)) × (lent j r ≡ false → Keeps j r home (data_of (events_of j) r))

-- what the claim word and the slot of the cell x say
pub record CellOk (K : List ℕ) (j : List Line) (x word : ℕ) (home : Home) : Type 0 where
  pub tag : Tag
  pub cause : ℕ
  pub gen : ℕ
  pub payload : ℕ
  pub fits : (cause < 16) × (gen < GENERATIONS) × (payload < 4294967296)
  pub word_is : word ≡ word_of tag cause gen payload
  pub says : Says j (request_at K x gen) home cause payload tag
  pub ages : Ages K j x gen

-- what the journal tells of the pipe p: what is in it, and who lies there
abbrev pub stands : List Line → ℕ → Flow × List Req
stands j p = (flow (events_of j) p, lying j p)

-- of these pipes, and of boards with this many cells, the slot of p has the pipe that is told, and those that are told to lie there, with a place for each cell; there is none where the layout has none
abbrev pub PipeIn : List ℕ → ℕ → ℕ → Option Thing → Flow × List Req → Type 0
PipeIn caps cells p None w = length caps < suc p
PipeIn caps cells p (Some (Full x)) w = ⊥
PipeIn caps cells p (Some (Piped v)) w = (v.pipe.cap ≡ slice_index caps p) × (v.pipe.content ≡ content w.0) × (v.pipe.read_closed ≡ w.0.read_closed) × (v.pipe.write_closed ≡ w.0.write_closed) × (v.lying.items ≡ w.1) × (vec_capacity v.lying ≡ cells)

abbrev pub PipeIs : Layout → ℕ → Option Thing → Flow × List Req → Type 0
PipeIs L p o w = PipeIn L.caps (total L.cells) p o w

-- what a pipe's word says: 0 at home, 1 out
abbrev pub PipeSays : Layout → List Line → ℕ → ℕ → Home → Option Req → Type 0
PipeSays L j p word home None = (word ≡ 0) × (o : Option Thing) × (home ≡ some (some o)) × PipeIs L p o (stands j p)
PipeSays L j p word home (Some r) = word ≡ 1

abbrev pub PipeOk : Layout → List Line → ℕ → ℕ → Home → Type 0
PipeOk L j p word home = PipeSays L j p word home (holder j p)

abbrev pub IsCapacity : ℕ → Type 0
IsCapacity n = (0 < n) × (n < 65537)

-- the slots of a new table
pub record AreNewSlots (caps : List ℕ) (rows : ℕ) (slots : List (Option Thing)) : Type 0 where
  pub long : length slots ≡ slots_of rows
  pub empty : (x : ℕ) → x < rows → get_elem? slots (slot_at x) ≡ some None
  pub pipes : (p : ℕ) → p < 64 → (o : Option Thing) × (get_elem? slots p ≡ some o) × PipeIn caps rows p o (untouched, [])
