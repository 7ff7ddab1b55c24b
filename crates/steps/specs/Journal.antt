-- The journal: the history's events, newest first, and between them what seats do without an event. Who was moved to Ready, which slot or pipe is out with whom, which requests lie with a pipe, and what stands in a note word, is read off it.
use Rattle.std.specs.Prelude.{ℕ, ◌==◌, Bool, true, false, cond, List, [], ◌∷◌, ◌++◌, Option, Some, None}
use Rattle.history.specs.declared.req.Req.{Req}
use Rattle.history.specs.declared.event.Event.{Event}
use Rattle.history.specs.declared.event.Event.TheVariants.{Submit, Reply, Reap}
use Rattle.history.specs.History.{same}
use Rattle.steps.specs.declared.line.Laid.{Laid}
use Rattle.steps.specs.declared.line.Laid.TheVariants.{NoRequest, Behind, Alone}
use Rattle.steps.specs.declared.line.Line.{Line}
use Rattle.steps.specs.declared.line.Line.TheVariants.{Did, Freed, Lent, Noted, Hold, Free}

abbrev pub event_of : Line → List Event → List Event
event_of (Did e) h = e ∷ h
event_of _ h = h

-- the history
abbrev pub events_of : List Line → List Event
events_of [] = []
events_of (l ∷ j) = event_of l (events_of j)

abbrev pub frees : Line → Req → Bool
frees (Freed r) q = same r q
frees _ q = false

-- the request was moved to Ready
abbrev pub freed : List Line → Req → Bool
freed [] q = false
freed (l ∷ j) q = cond (frees l q) true (freed j q)

abbrev pub lends : Line → Req → Bool → Bool
lends (Lent r word value) q b = cond (same r q) true b
lends (Did (Submit r e bytes last)) q b = cond (same r q) false b
lends (Did (Reap r)) q b = cond (same r q) false b
lends _ q b = b

-- the submitter has the slot of the request's cell
abbrev pub lent : List Line → Req → Bool
lent [] q = false
lent (l ∷ j) q = lends l q (lent j q)

abbrev pub stores : Line → ℕ → ℕ → ℕ
stores (Lent r word value) w n = cond (word == w) value n
stores (Noted r word value) w n = cond (word == w) value n
stores _ w n = n

-- what was stored last in this note word
abbrev pub noted : List Line → ℕ → ℕ
noted [] w = 0
noted (l ∷ j) w = stores l w (noted j w)

abbrev pub holds : Line → ℕ → Option Req → Option Req
holds (Hold r n) p o = cond (n == p) (Some r) o
holds (Free r n laid) p o = cond (n == p) None o
holds _ p o = o

-- for which request a worker has the pipe p
abbrev pub holder : List Line → ℕ → Option Req
holder [] p = None
holder (l ∷ j) p = holds l p (holder j p)

-- those that lie with a pipe once the worker of r has given it back so
abbrev pub lays : Laid → Req → List Req → List Req
lays NoRequest r rs = rs
lays Behind r rs = rs ++ (r ∷ [])
lays Alone r rs = r ∷ []

-- those that it takes along as it does so
abbrev pub goes_out : Laid → List Req → List Req
goes_out Alone rs = rs
goes_out _ rs = []

abbrev pub is_holder : Option Req → Req → Bool
is_holder None r = false
is_holder (Some q) r = same q r

abbrev pub lies : Line → List Line → ℕ → List Req → List Req
lies (Free r n laid) j p rs = cond (n == p) (lays laid r rs) rs
lies (Did (Reply r res data')) j p rs = cond (is_holder (holder j p) r) [] rs
lies _ j p rs = rs

-- the requests that lie with the pipe p, the one that was laid down last at the end: who replies with the held pipe takes all of them along
abbrev pub lying : List Line → ℕ → List Req
lying [] p = []
lying (l ∷ j) p = lies l j p (lying j p)
