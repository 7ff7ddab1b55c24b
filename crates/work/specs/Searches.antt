-- What a cancel asks for, and what its search finds.
use Rattle.std.specs.Prelude.{◌≡◌, ◌⊎◌, ℕ, ◌+◌, ◌<◌, ◌≤◌, ◌==◌, Bool, true, false, not, cond, List, [], ◌∷◌, ◌++◌, length, Option, Some, None}
use Rattle.atomic_table.specs.Seated.{TableId}
use Rattle.atomic_table.specs.declared.shared.Seat.{Seat}
use Rattle.claim.specs.declared.word.TheConstants.{GENERATIONS}
use Rattle.entry.specs.declared.op.Op.{Op}
use Rattle.entry.specs.declared.op.Op.TheVariants.{AsyncCancel, TimeoutRemove}
use Rattle.entry.specs.Entry.{Entry}
use Rattle.history.specs.declared.req.Req.{Req}
use Rattle.history.specs.declared.event.Event.TheVariants.{Take, Miss}
use Rattle.history.specs.{Matches, NoneLeft as NoMatchLeft, IsBefore, IsPlaced, is_link_timeout, is_timeout, hit, nothing, has_missed, phase, submits, IsReplied}
use Rattle.history.specs.declared.event.Event.{Event}
use Rattle.history.specs.Legal.{Legal}
use Rattle.steps.specs.declared.line.Line.TheVariants.{Did}
use Rattle.steps.specs.declared.slot.Thing.{Thing}
use Rattle.steps.specs.declared.view.Role.TheVariants.{Busy}
use Rattle.steps.specs.declared.view.Step.{Step}
use Rattle.steps.specs.declared.view.View.{View}
use Rattle.steps.specs.{setup_of, cells_in, claim_at, facts_at, user_at, request_at, Orderly, events_of, Extends, Fits, Looks}
use Rattle.work.specs.Passes.{ArePast}
use Rattle.work.specs.declared.cancel.Wanted.{Wanted}
use Rattle.work.specs.declared.cancel.Target.{Target}
use Rattle.work.specs.declared.cancel.Searched.{Searched}
use Rattle.work.specs.declared.cancel.Searched.TheVariants.{NoneLeft, Ended, Found}
use Rattle.work.specs.declared.cancel.Tried.{Tried}
use Rattle.work.specs.declared.cancel.Tried.TheVariants.{Passed, Took, Missed}

-- what the operation asks for, if it is a cancel
abbrev pub wanted_in : Op → Option Wanted
wanted_in (AsyncCancel u all) = Some (record { user_data = u; timeout = false; all = all })
wanted_in (TimeoutRemove u) = Some (record { user_data = u; timeout = true; all = false })
wanted_in _ = None

-- the operations that a cancel may be meant for: TIMEOUTs alone, or any but a LINK_TIMEOUT
abbrev pub is_kind : Bool → Op → Bool
is_kind true op = is_timeout op
is_kind false op = not (is_link_timeout op)

abbrev pub WorkerSeat : Type 0
WorkerSeat = Seat (Option Thing) View

-- the seat's worker runs the cancel c, which asks for w
pub record Cancels (table : TableId) (s : WorkerSeat) (c : Req) (w : Wanted) : Type 0 where
  pub table_is : s.table_id ≡ table
  pub busy : s.me.0.role ≡ Busy c
  pub born : c.k < submits (events_of s.me.0.seen) c.ring
  pub entry : Entry
  pub placed_is : IsPlaced (events_of s.me.0.seen) c entry
  pub asks : wanted_in entry.op ≡ Some w
  pub legal : Legal (setup_of s.me.0.layout) (events_of s.me.0.seen)
  pub orderly : Orderly s.me.0.layout s.me.0.seen

abbrev pub target_in : WorkerSeat → Target → Req
target_in s t = request_at s.me.0.layout.cells t.cell t.generation

-- the target is an earlier request of the ring of c
pub record IsEarlier (table : TableId) (s : WorkerSeat) (c : Req) (t : Target) : Type 0 where
  pub fits : Fits table s t.cell
  pub small : t.generation < GENERATIONS
  pub before : IsBefore (target_in s t) c

-- the matches of c before this number have replied
abbrev pub ArePassed : View → Req → ℕ → Type 0
ArePassed v c k = (t : Req) → Matches (events_of v.seen) c t → t.k < k → IsReplied (phase (events_of v.seen) t)

-- the search of c may begin at this number: each request of the ring before it has replied, and of those from there on each has a cell of its own
pub record IsFirst (K : List ℕ) (v : View) (c : Req) (first : ℕ) : Type 0 where
  pub low : first ≤ c.k
  pub near : c.k < first + cells_in K c.ring
  pub few : c.k < first + 1024
  pub past : ArePast v.seen c.ring first

-- by what the worker of c has seen it may end q or find it running, where q is a match without a reply: a cancel of one target has done nothing yet, and all matches before q have replied; one of all hasn't found q running
abbrev pub MayAim : Bool → View → Req → Req → Type 0
MayAim true v c q = has_missed (hit (events_of v.seen) c) q.k ≡ false
MayAim false v c q = (hit (events_of v.seen) c ≡ nothing) × ArePassed v c q.k

-- c is meant for q, or q has replied
abbrev pub IsMeant : View → Req → Req → Type 0
IsMeant v c q = Matches (events_of v.seen) c q ⊎ IsReplied (phase (events_of v.seen) q)

-- it saw more, or did nothing
abbrev pub WentOn : View → View → Type 0
WentOn v w = (w ≡ v) ⊎ Looks v w

-- what was done at the request q: nothing, since it has replied, or a Take, or a Miss
abbrev pub DidTake : View → View → Req → Req → Tried → Type 0
DidTake v w c q Passed = WentOn v w × IsReplied (phase (events_of w.seen) q)
DidTake v w c q Took = (m : View) × WentOn v m × Extends m (Did (Take c q)) (Busy c) w
DidTake v w c q Missed = (m : View) × WentOn v m × Extends m (Did (Miss c q)) (Busy c) w

-- the same of a request that the cancel may not be meant for
abbrev pub DidTry : View → View → Req → Req → Tried → Type 0
DidTry v w c q Passed = WentOn v w × (Matches (events_of w.seen) c q → IsReplied (phase (events_of w.seen) q))
DidTry v w c q t = DidTake v w c q t

-- how many of the steps were at this word
abbrev pub steps_at : ℕ → List Step → ℕ
steps_at word [] = 0
steps_at word (s ∷ l) = cond (s.word == word) 1 0 + steps_at word l

-- the steps were at the words of the cell x
abbrev pub AreAt : ℕ → List Step → Type 0
AreAt x [] = Unit {0}
AreAt x (s ∷ l) = ((s.word ≡ claim_at x) ⊎ ((s.word ≡ facts_at x) ⊎ (s.word ≡ user_at x))) × AreAt x l

-- all steps were at the words of the cell x, at most n of them at its claim word, and at most this many in all
pub record StepsIn (v w : View) (x n all : ℕ) : Type 0 where
  pub steps : List Step
  pub is : w.steps ≡ steps ++ v.steps
  pub at : AreAt x steps
  pub few : steps_at (claim_at x) steps ≤ n
  pub most : length steps ≤ all

-- what came of the search of the cancel c: all its matches have replied, or a Take, or a Miss, of an earlier request, which has another cell
abbrev pub DidSearch : View → View → Req → Searched → Type 0
DidSearch v w c NoneLeft = WentOn v w × NoMatchLeft (events_of w.seen) c
DidSearch v w c (Ended t) = (t.k < c.k) × (1 < cells_in v.layout.cells c.ring) × (m : View) × WentOn v m × Extends m (Did (Take c t)) (Busy c) w
DidSearch v w c Found = (t : Req) × (t.k < c.k) × (m : View) × WentOn v m × Extends m (Did (Miss c t)) (Busy c) w

-- the worker of c went on, with these events of its own, the newest first
abbrev pub WentBy : View → View → Req → List Event → Type 0
WentBy v w c [] = WentOn v w
WentBy v w c (e ∷ own) = (m : View) × (n : View) × WentBy v m c own × Extends m (Did e) (Busy c) n × WentOn n w

-- at most n steps at each claim word, and at most this many in all
pub record FewSteps (v w : View) (n all : ℕ) : Type 0 where
  pub steps : List Step
  pub is : w.steps ≡ steps ++ v.steps
  pub few : (x : ℕ) → steps_at (claim_at x) steps ≤ n
  pub most : length steps ≤ all

-- exactly this many steps, and none of them at a claim word
pub record ReadNotes (v w : View) (count : ℕ) : Type 0 where
  pub steps : List Step
  pub is : w.steps ≡ steps ++ v.steps
  pub bare : (x : ℕ) → steps_at (claim_at x) steps ≡ 0
  pub count_is : length steps ≡ count

-- at most n steps at each claim word, fewer at that of the cell of c, and at most this many in all
pub record FewerSteps (v w : View) (c : Req) (n all : ℕ) : Type 0 where
  pub steps : List Step
  pub is : w.steps ≡ steps ++ v.steps
  pub few : (x : ℕ) → steps_at (claim_at x) steps ≤ n
  pub own : (x g : ℕ) → request_at v.layout.cells x g ≡ c → steps_at (claim_at x) steps < n
  pub most : length steps ≤ all
