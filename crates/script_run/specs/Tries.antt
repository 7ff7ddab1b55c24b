-- What came of a ring's lines: all were carried out, or one ran out of tries; and what each try found.
use Rattle.std.specs.Prelude.{◌≡◌, ℕ, zero, suc, ◌<◌, ◌++◌, length, false, List, ◌∷◌, Some, None, slice_get, slice_index_or}
use Rattle.std.specs.Global.{Vec}
use Rattle.history.specs.declared.req.Req.{Req}
use Rattle.board.specs.declared.phase.Phase.{Phase}
use Rattle.board.specs.declared.error.SubmitError.TheVariants.{Full}
use Rattle.board.specs.{Entries, Finds, next_of, RefusesBatch}
use Rattle.script.specs.declared.act.Act.{Act}
use Rattle.script.specs.declared.act.Act.TheVariants.{Submit, Wait, Armed, Tick}
use Rattle.script.specs.declared.script.Script.{Script}
use Rattle.script.specs.Requests.{request_of}
use Rattle.script_run.specs.declared.actor.Actor.{Actor}
use Rattle.script_run.specs.declared.lines.Halt.{Halt}
use Rattle.script_run.specs.declared.actor.Tried.{Tried}
use Rattle.script_run.specs.declared.actor.Tried.TheVariants.{Submitted, Refused}
use Rattle.script_run.specs.ClockLines.{has_reply}
use Rattle.script_run.specs.Actors.{AreEntries, ActorAt, SubmittedBatch, IsCarried, IsNewActor, Went}

-- the line waits for the entry at this place, or it submits that entry first
abbrev pub IsFor : Act → ℕ → Type 0
IsFor (Wait p) q = p ≡ q
IsFor (Armed p) q = p ≡ q
IsFor (Submit places) q = slice_get places.items 0 ≡ Some q
IsFor (Tick n) q = ⊥

-- ---- a ring's line

-- its client looked where the request stands, which had no reply
abbrev pub LooksInVain : Req → Actor → Actor → Type 0
LooksInVain r old new = (s : Phase) × Finds old.client.board r s old.client.submitter new.client.submitter × (has_reply (Some s) ≡ false)

-- its client was refused the batch, since not all of its cells were free
abbrev pub FindsFull : Entries → Actor → Actor → Type 0
FindsFull xs old new = RefusesBatch old.client.board xs old.client.ring (next_of old.client.submitter old.client.ring).k old.client.submitter new.client.submitter Full

-- what a try to submit these entries came to
abbrev pub CameTo : Entries → Actor → Actor → Tried → Type 0
CameTo xs old new Submitted = SubmittedBatch xs old new
CameTo xs old new (Tried.Full batch) = Went old new × (batch.items ≡ xs) × FindsFull xs old new
CameTo xs old new Refused = Went old new

-- it tried this line, in vain
abbrev pub IsInVain : Script → Act → Actor → Actor → Type 0
IsInVain c (Wait p) old new = (r : Req) × (request_of c p ≡ Some r) × LooksInVain r old new
IsInVain c (Submit places) old new = (xs : Entries) × AreEntries c places.items xs × FindsFull xs old new
IsInVain c _ old new = ⊥

-- one try of the line, in vain. Before and after it the client took completions
pub record TriesInVain (c : Script) (act : Act) (old new : Actor) : Type 0 where
  pub first : Actor
  pub last : Actor
  pub before : Went old first
  pub tried : IsInVain c act first last
  pub after : Went last new

-- this many
abbrev pub TriedInVain : Script → Act → ℕ → Actor → Actor → Type 0
TriedInVain c act zero old new = Went old new
TriedInVain c act (suc n) old new = (h : Actor) × TriedInVain c act n old h × TriesInVain c act h new

-- the line ran out of that many tries, and the entry at this place is the one that is told
pub record RanOut (c : Script) (turns : ℕ) (act : Act) (p : ℕ) (old new : Actor) : Type 0 where
  pub is_for : IsFor act p
  pub tried : TriedInVain c act turns old new

-- what is said of the place of a line that ran out of tries
abbrev pub IfStuck : (ℕ → Type 0) → Halt → Type 0
IfStuck P (Halt.Stuck p) = P p
IfStuck P _ = Unit {0}

-- the client of the actor has carried out the lines of its ring before one that ran out of tries
pub record IsStuckLine (c : Script) (turns p : ℕ) (h : Actor) : Type 0 where
  pub lines : Vec Act
  pub lines_are : slice_get c.acts.items h.client.ring ≡ Some lines
  pub done : List Act
  pub act : Act
  pub left : List Act
  pub split : lines.items ≡ done ++ act ∷ left
  pub from : Actor
  pub at : ActorAt c done 0 from
  pub to : Actor
  pub same : h.client ≡ to.client
  pub out : RanOut c turns act p from to

-- its thread carried its lines out, unless it was stopped; and what is so where a line ran out of tries
pub record CarriedOut (c : Script) (turns : ℕ) (old new : Actor) : Type 0 where
  pub board : new.client.board ≡ old.client.board
  pub ring : new.client.ring ≡ old.client.ring
  pub carried : IsNewActor c old → new.halt ≡ None → IsCarried c new
  pub stuck : (p : ℕ) → IsNewActor c old → new.halt ≡ Some (Halt.Stuck p) → IsStuckLine c turns p new

-- place by place, each of these came so of the one that stands there
abbrev pub AllCarriedOut : Script → ℕ → List Actor → List Actor → Type 0
AllCarriedOut c turns xs ys = (length ys ≡ length xs) × ((k : ℕ) (d e : Actor) → k < length xs → CarriedOut c turns (slice_index_or xs k d) (slice_index_or ys k e))

-- of the first n actors this is the first that was stopped, by a line that ran out of tries
pub record IsLowest (actors : List Actor) (n p : ℕ) : Type 0 where
  pub ring : ℕ
  pub below : ring < n
  pub stuck : (d : Actor) → (slice_index_or actors ring d).halt ≡ Some (Halt.Stuck p)
  pub lower : (k : ℕ) (d : Actor) → k < ring → (slice_index_or actors k d).halt ≡ None
