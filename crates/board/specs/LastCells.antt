-- What is left of a table that was ended, while its report is written.
use Rattle.std.specs.Prelude.{◌≡◌, ℕ, suc, ◌+◌, ◌<◌, ◌≤◌, Bool, true, false, ℤ, negsuc, List, [], ◌∷◌, ◌++◌, length, slice_index, slice_index_or, Option, Some, None}
use mathlib.Core.Option.{some}
use lib.ListN.{get_elem?}
use Rattle.entry.specs.Entry.{Entry}
use Rattle.history.specs.declared.req.Req.{Req}
use Rattle.history.specs.declared.event.Event.{Event}
use Rattle.history.specs.History.{Cause, Phase, waits, runs, armed, replied, phase, submission, data_of, IsIdle}
use Rattle.history.specs.Legal.{Setup, Legal}
use Rattle.steps.specs.declared.line.Line.{Line}
use Rattle.steps.specs.declared.slot.Submission.{Submission}
use Rattle.steps.specs.declared.slot.Thing.{Thing}
use Rattle.steps.specs.declared.slot.Thing.TheVariants.{Full}
use Rattle.steps.specs.declared.view.Heard.{Heard}
use Rattle.steps.specs.declared.view.Role.TheVariants.{Poller}
use Rattle.steps.specs.declared.view.View.{View}
use Rattle.steps.specs.{events_of, IsCell, request_at, total, claim_at, slot_at, over, IsSubmission, Shown, Ended}
use Rattle.work.specs.{Facts, IsBoard, IsOf, AreCells, Pass}
use Rattle.board.specs.declared.completion.Completion.{Completion}
use Rattle.board.specs.declared.phase.Phase.{Phase as Standing}
use Rattle.board.specs.declared.phase.Phase.TheVariants.{Done}
use Rattle.board.specs.Calls.{IsWord}
use Rattle.board.specs.Reports.{AreOf, IsBefore, Ordered, IsListed}

-- what the passes have seen and were told, before what was known
abbrev pub told_by : List Pass → List Heard → List Heard
told_by [] xs = xs
told_by (p ∷ ps) xs = record { role = p.view.role; seen = p.view.seen } ∷ (p.view.heard ++ told_by ps xs)

-- the view after it heard passes of one part each
abbrev pub hearing_all : View → List Pass → View
hearing_all v ps = record v { parts = v.parts + length ps; heard = told_by ps v.heard }

-- the end of a board's table, when all passes are back
pub record Closing (b : Facts) (p : Pass) (ss ws : List Pass) (v : View) (words : List ℕ) (slots : List (Option Thing)) : Type 0 where
  pub ours : IsOf b p
  pub board : IsBoard b
  pub rings : ℕ
  pub role : p.view.role ≡ Poller rings
  pub submitters : AreOf b ss × (length ss ≡ length b.layout.cells)
  pub workers : AreOf b ws × (length ws ≡ b.workers)
  pub view_is : v ≡ hearing_all (hearing_all p.view ss) ws
  pub ended : Ended b.layout v words slots

-- it was submitted, was not reaped and does not run
abbrev pub IsLeft : Phase → Type 0
IsLeft waits = Unit {0}
IsLeft (armed d) = Unit {0}
IsLeft (replied c res) = Unit {0}
IsLeft _ = ⊥

-- the data that lie over the front of its buffer
abbrev pub data_left : List Event → Req → Phase → List ℕ
data_left h r (replied c res) = data_of h r
data_left h r p = []

-- how many slots have something
abbrev pub full_slots : List (Option Thing) → ℕ
full_slots [] = 0
full_slots (None ∷ s) = full_slots s
full_slots (Some t ∷ s) = suc (full_slots s)

-- the claim words at the end, when no request runs
pub record Rests (s : Setup) (K : List ℕ) (j : List Line) (claims : List ℕ) : Type 0 where
  pub legal : Legal s (events_of j)
  pub rings : s.rings ≡ length K
  pub cells : AreCells K
  pub still : (q : Req) → ¬ (phase (events_of j) q ≡ runs)
  pub long : length claims ≡ total K
  pub shown : (x : ℕ) → IsCell K x → Shown K j x (slice_index claims x)
  pub words : (x : ℕ) → IsCell K x → IsWord (slice_index claims x)

-- the slot of a cell, unless its request has a line
abbrev pub IsKept : List ℕ → List Line → List (Option Thing) → ℕ → ℕ → Type 0
IsKept K j slots x g = (p : Submission) × (get_elem? slots x ≡ some (Some (Full p))) × IsSubmission j (request_at K x g) (data_left (events_of j) (request_at K x g) (phase (events_of j) (request_at K x g))) p

-- what a line says of its request, by whether the request had a reply before the end
abbrev pub IsCutOrNot : List Event → Req → ℤ → Bool → Type 0
IsCutOrNot h r res true = (res ≡ negsuc 124) × (IsIdle (phase h r))
IsCutOrNot h r res false = (c : Cause) × (phase h r ≡ replied c res)

-- the line is right for this request, as the history before the end tells
pub record IsLineOf (h : List Event) (r : Req) (x : Completion × Bool) : Type 0 where
  pub entry : Entry
  pub bytes : List ℕ
  pub end_of_batch : Bool
  pub handed_in : submission h r ≡ Some (record { entry = entry; bytes = bytes; last = end_of_batch })
  pub user_data : x.0.cqe.user_data ≡ entry.user_data
  pub buffer : x.0.buffer.items ≡ over (data_left h r (phase h r)) bytes
  pub cut : IsCutOrNot h r x.0.cqe.res x.1

abbrev pub IsLine : List Event → Completion × Bool → Type 0
IsLine h x = IsLineOf h x.0.req x

abbrev pub AreLines : List Event → List (Completion × Bool) → Type 0
AreLines h [] = Unit {0}
AreLines h (x ∷ lines) = IsLine h x × AreLines h lines

abbrev pub AreEarlier : Req → List (Completion × Bool) → Type 0
AreEarlier r [] = Unit {0}
AreEarlier r (x ∷ lines) = IsBefore x.0.req r × AreEarlier r lines

-- the report up to the request `reached`
pub record Reports (s : Setup) (K : List ℕ) (j : List Line) (claims : List ℕ) (slots : List (Option Thing)) (lines : List (Completion × Bool)) (space : ℕ) (reached : Req) : Type 0 where
  pub rests : Rests s K j claims
  pub wide : length slots ≡ total K
  pub kept : (x g : ℕ) → IsCell K x → IsLeft (phase (events_of j) (request_at K x g)) → ¬ IsListed (request_at K x g) lines → IsKept K j slots x g
  pub room : length lines + full_slots slots ≤ space
  pub ordered : Ordered lines
  pub earlier : AreEarlier reached lines
  pub right : AreLines (events_of j) lines
  pub listed : (r : Req) → IsBefore r reached → IsLeft (phase (events_of j) r) → IsListed r lines

-- the values from one place to another were taken, and the others stand
pub record IsEmptied (old new : List Bool) (from to : ℕ) : Type 0 where
  pub inside : (k : ℕ) → from ≤ k → k < to → slice_index_or new k false ≡ false
  pub below : (k : ℕ) → k < from → slice_index_or new k false ≡ slice_index_or old k false
  pub above : (k : ℕ) → to ≤ k → slice_index_or new k false ≡ slice_index_or old k false

-- the claim words and the slots of the first n cells
pub record AreTaken (words : List ℕ) (slots : List (Option Thing)) (n : ℕ) (claims : List ℕ) (things : List (Option Thing)) : Type 0 where
  pub claims_long : length claims ≡ n
  pub things_long : length things ≡ n
  pub claims_are : (x : ℕ) → x < n → slice_index claims x ≡ slice_index words (claim_at x)
  pub things_are : (x : ℕ) (t : Option Thing) → x < n → get_elem? slots (slot_at x) ≡ some t → get_elem? things x ≡ some t

-- the reply that a request gets at the end, and whether it is cut off
abbrev pub IsReplyOf : Standing → ℤ → Bool → Type 0
IsReplyOf (Done n) res cut = (res ≡ n) × (cut ≡ false)
IsReplyOf _ res cut = (res ≡ negsuc 124) × (cut ≡ true)
