-- What a run does.
use Rattle.std.specs.Prelude.{◌≡◌, ◌≢◌, ◌⊎◌, ℕ, ◌+◌, ◌*◌, ◌<◌, ◌≤◌, true, false, ℤ, pos, negsuc, List, [], ◌∷◌, ◌++◌, length, Option, Some, None}
use Rattle.entry.specs.declared.op.Op.{Op}
use Rattle.entry.specs.declared.op.Op.TheVariants.{LinkTimeout, Invalid}
use Rattle.entry.specs.Entry.{Entry}
use Rattle.history.specs.declared.req.Req.{Req}
use Rattle.history.specs.declared.event.Event.{Event}
use Rattle.history.specs.declared.event.Event.TheVariants.{Park, Reply, Take, Miss}
use Rattle.history.specs.{AllTried, CancelBy, OpAnswers, IsPlaced, hit, uses_at}
use Rattle.history.specs.Legal.{Legal}
use Rattle.answers.specs.declared.named.NamedPipes.{NamedPipes}
use Rattle.answers.specs.declared.named.NamedPipes.TheVariants.{Nothing, One, Both}
use Rattle.answers.specs.NamedEnds.{AreNamed}
use Rattle.steps.specs.declared.line.Line.{Line}
use Rattle.steps.specs.declared.line.Laid.{Laid}
use Rattle.steps.specs.declared.line.Line.TheVariants.{Did, Free}
use Rattle.steps.specs.declared.view.Role.TheVariants.{Idle, Busy}
use Rattle.steps.specs.declared.view.Step.{Step}
use Rattle.steps.specs.declared.view.View.{View}
use Rattle.steps.specs.{events_of, goes_out, holder, lays, lying, cells_in, setup_of, pipe_at, Begins, IsStep, LiesIn}
use Rattle.work.specs.declared.run.Parked.{Parked as Reason}
use Rattle.work.specs.declared.run.Parked.TheVariants.{NotReady, PipeBusy}
use Rattle.work.specs.declared.run.Ran.{Ran}
use Rattle.work.specs.declared.run.Ran.TheVariants.{Replied, Parked}
use Rattle.work.specs.declared.cancel.Searched.{Searched}
use Rattle.work.specs.declared.cancel.Searched.TheVariants.{NoneLeft, Ended, Found}
use Rattle.work.specs.declared.cancel.Wanted.{Wanted}
use Rattle.work.specs.Passes.{Pass, Running, Took, notes_read, seen_of, own_of}
use Rattle.work.specs.Searches.{FewSteps, WentBy, wanted_in}

-- what a worker runs: of the LINK_TIMEOUTs those alone that have no target, and are placed as Invalid
abbrev pub op_run : Op → Op
op_run (LinkTimeout ticks) = Invalid
op_run op = op

abbrev pub run_as : Entry → Entry
run_as e = record e { op = op_run e.op }

-- the worker of r went on by these events of its own, then by e, the last that it has seen, and is idle
pub record EndsBy (v w : View) (r : Req) (first : List Event) (e : Event) : Type 0 where
  pub later : List Line
  pub seen_is : w.seen ≡ Did e ∷ (later ++ v.seen)
  pub own : own_of (Busy r) later ≡ first
  pub role_is : w.role ≡ Idle

-- Takes and Misses of r alone, the newest first: each of a request with a number below k, and below those of the newer ones
abbrev pub AreHits : Req → ℕ → List Event → Type 0
AreHits r k [] = Unit {0}
AreHits r k (Take c t ∷ own) = (c ≡ r) × (t.k < k) × AreHits r t.k own
AreHits r k (Miss c t ∷ own) = (c ≡ r) × (t.k < k) × AreHits r t.k own
AreHits r k (e ∷ own) = ⊥

-- the requests that these events took, the oldest event first
abbrev pub taken_in : List Event → List Req
taken_in [] = []
taken_in (Take c t ∷ own) = taken_in own ++ (t ∷ [])
taken_in (e ∷ own) = taken_in own

-- what is no cancel did none of these, and a cancel of one target at most one
abbrev pub AreFew : Option Wanted → List Event → Type 0
AreFew None own = own ≡ []
AreFew (Some u) own = u.all ≡ false → length own ≤ 1

-- the reply of a cancel of one target, and the requests that it took, by what came of its search
abbrev pub Told : Searched → ℤ → List Req → Type 0
Told NoneLeft res took = (res ≡ negsuc 1) × (took ≡ [])
Told (Ended t) res took = (res ≡ pos 0) × (took ≡ t ∷ [])
Told Found res took = (res ≡ negsuc 113) × (took ≡ [])

-- the cancel c, of all its matches, took these: each match has replied, or was found running
pub record DidCancelAll (v w : View) (c : Req) (took : List Req) : Type 0 where
  pub own : List Event
  pub went : WentBy v w c own
  pub hits : AreHits c c.k own
  pub took_is : took ≡ taken_in own
  pub tried : AllTried (events_of w.seen) c (hit (events_of w.seen) c)

-- the cancel c, which asks for u, took these, and may reply so
pub record DidCancel (v w : View) (c : Req) (u : Wanted) (took : List Req) (res : ℤ) : Type 0 where
  pub own : List Event
  pub went : WentBy v w c own
  pub hits : AreHits c c.k own
  pub took_is : took ≡ taken_in own
  pub few : AreFew (Some u) own
  pub answers : CancelBy u.all (events_of w.seen) c (hit (events_of w.seen) c) res

-- in a legal history between what was seen before and after there was no answer, while the worker had each pipe that the entry is answered from
pub record NoAnswer (v w : View) (r : Req) (e : Entry) : Type 0 where
  pub at : List Line
  pub after : Begins at v.seen
  pub before : Begins w.seen at
  pub legal : Legal (setup_of v.layout) (events_of at)
  pub has : (p : ℕ) → p < length v.layout.caps → uses_at e.op p ≡ true → holder at p ≡ Some r
  pub none : (res : ℤ) (data' : List ℕ) → ¬ OpAnswers v.layout.caps (events_of at) r e.op res data'

-- there is no answer in what was seen
abbrev pub Unanswered : View → Req → Entry → Type 0
Unanswered v r e = (res : ℤ) (data' : List ℕ) → ¬ OpAnswers v.layout.caps (events_of v.seen) r e.op res data'

-- the one step found the pipe's word out, with another worker
abbrev pub MissedPipe : View → View → ℕ → Req → Type 0
MissedPipe v w p r = (n : ℕ) × IsStep (pipe_at p) n v w × (n ≢ 0) × (other : Req) × (holder w.seen p ≡ Some other) × (other ≢ r)

-- a step of the run found the pipe's word out, with another worker
pub record FoundOut (v w : View) (r : Req) (p : ℕ) : Type 0 where
  pub before : List Step
  pub step : Step
  pub after : List Step
  pub steps : w.steps ≡ after ++ (step ∷ (before ++ v.steps))
  pub word_is : step.word ≡ pipe_at p
  pub out : step.found ≢ 0
  pub other : Req
  pub holds : holder step.seen p ≡ Some other
  pub is_other : other ≢ r

-- why a request was put back that is answered from the pipe p: there was no answer, or that pipe was out
abbrev pub IsReason : View → View → Req → Entry → ℕ → Reason → Type 0
IsReason v w r e p NotReady = NoAnswer v w r e
IsReason v w r e p PipeBusy = FoundOut v w r p

-- the worker of b replied. Its own events before that are Takes and Misses of its request alone, and it lists which it took
pub record DidReply (b : Running) (w : Pass) (res : ℤ) : Type 0 where
  pub data' : List ℕ
  pub own : List Event
  pub ends : EndsBy b.pass.view w.view b.req own (Reply b.req res data')
  pub hits : AreHits b.req b.req.k own
  pub took_is : w.took ≡ taken_in own
  pub few : (e : Entry) → IsPlaced (seen_of b.pass) b.req e → AreFew (wanted_in e.op) own

-- a reply is the one that the completion reports, which has the entry's user_data. Before it a cancel may have taken what it is meant for, or found it running. What is parked is answered from a pipe of the board, and took nothing
abbrev pub IsRun : Running → Pass → Ran → Type 0
IsRun b w (Replied cqe) = DidReply b w cqe.res × ((e : Entry) → IsPlaced (seen_of b.pass) b.req e → cqe.user_data ≡ e.user_data)
IsRun b w (Parked why) = EndsBy b.pass.view w.view b.req [] (Park b.req) × (w.took ≡ []) × ((e : Entry) → IsPlaced (seen_of b.pass) b.req e → (p : ℕ) × (p < length b.pass.view.layout.caps) × (uses_at e.op p ≡ true) × IsReason b.pass.view w.view b.req e p why)

-- the steps of a run that is no cancel's and read n notes, by the pipes of the board that its entry names. Of two the source is taken first
abbrev pub StepsAt : ℕ → NamedPipes → View → View → Req → Ran → Type 0
StepsAt n Nothing v w r (Replied cqe) = Took v w (1 + n)
StepsAt n Nothing v w r (Parked why) = ⊥
StepsAt n (One p) v w r (Replied cqe) = Took v w (3 + n)
StepsAt n (One p) v w r (Parked NotReady) = Took v w (3 + n)
StepsAt n (One p) v w r (Parked PipeBusy) = Took v w (2 + n)
StepsAt n (Both s t) v w r (Replied cqe) = Took v w (5 + n)
StepsAt n (Both s t) v w r (Parked NotReady) = Took v w (5 + n)
StepsAt n (Both s t) v w r (Parked PipeBusy) = (Took v w (2 + n) × FoundOut v w r s) ⊎ (Took v w (4 + n) × FoundOut v w r t)

-- a cancel takes at most four at each claim word, and beside its notes at most five for each cell of its ring in all
abbrev pub StepsBy : ℕ → Option Wanted → Running → View → Entry → Ran → Type 0
StepsBy n (Some u) b w e ran = FewSteps b.pass.view w 4 (n + 5 * cells_in b.pass.view.layout.cells b.req.ring)
StepsBy n None b w e ran = (named : NamedPipes) × AreNamed e.op (length b.pass.view.layout.caps) named × StepsAt n named b.pass.view w b.req ran

-- the steps of a run, by what its entry asks for
abbrev pub HasStepped : Running → View → Entry → Ran → Type 0
HasStepped b w e ran = StepsBy (notes_read e.op) (wanted_in e.op) b w e ran

-- the run of r replied so with the pipe p in hand, and took along these: all that lay there
abbrev pub TookAlong : Req → ℕ → ℤ → View → List Req → Type 0
TookAlong r p res w out = (at : List Line) × (data' : List ℕ) × (w.seen ≡ Did (Reply r res data') ∷ at) × (out ≡ lying at p)

-- the run of r gave the pipe p back, where its number lies since: laid down, or there already; and took along these: none, or all others, which had to make place
pub record LaidDown (v w : View) (r : Req) (p : ℕ) (out : List Req) : Type 0 where
  pub at : List Line
  pub laid : Laid
  pub after : Begins at v.seen
  pub before : Begins w.seen (Free r p laid ∷ at)
  pub lies : LiesIn (lays laid r (lying at p)) r
  pub out_is : out ≡ goes_out laid (lying at p)

-- it did so with two pipes
abbrev pub LaidAtBoth : View → View → Req → ℕ → ℕ → List Req → Type 0
LaidAtBoth v w r s t out = (a : List Req) × (b : List Req) × LaidDown v w r s a × LaidDown v w r t b × (out ≡ a ++ b)

-- what a run took along, by the pipes of the board that its entry names: from each of them all that lay there, where it replied. Where there was no answer its number lies with each of them since. Nothing else was taken along, and nothing of this is lost
abbrev pub WakesAt : NamedPipes → Running → Pass → Ran → Type 0
WakesAt Nothing b w ran = w.woken ≡ []
WakesAt (One p) b w (Replied cqe) = TookAlong b.req p cqe.res w.view w.woken
WakesAt (One p) b w (Parked NotReady) = LaidDown b.pass.view w.view b.req p w.woken
WakesAt (Both s t) b w (Replied cqe) = (x : List Req) × (y : List Req) × TookAlong b.req s cqe.res w.view x × TookAlong b.req t cqe.res w.view y × (w.woken ≡ x ++ y)
WakesAt (Both s t) b w (Parked NotReady) = LaidAtBoth b.pass.view w.view b.req s t w.woken
WakesAt named b w (Parked PipeBusy) = w.woken ≡ []

abbrev pub HasWoken : Running → Pass → Entry → Ran → Type 0
HasWoken b w e ran = (named : NamedPipes) × AreNamed e.op (length b.pass.view.layout.caps) named × WakesAt named b w ran
