-- What a work turn makes of its desk, of its worker and of the outbox.
use Rattle.std.specs.Prelude.{◌≡◌, ◌⊎◌, ℕ, ◌+◌, ◌*◌, ◌≤◌, List, [], ◌++◌, ◌∷◌, length, sum_by}
use Rattle.entry.specs.Entry.{Entry}
use Rattle.history.specs.declared.req.Req.{Req}
use Rattle.history.specs.declared.event.Event.TheVariants.{Begin}
use Rattle.history.specs.Chains.{IsPlaced}
use Rattle.steps.specs.declared.line.Line.TheVariants.{Did}
use Rattle.steps.specs.declared.view.Role.TheVariants.{Busy}
use Rattle.steps.specs.{total, Looks, Extends, NoneSleeps}
use Rattle.work.specs.{Facts, IsOf, Pass, Running, FoundNotReady, seen_of, HasWoken, IsRun}
use Rattle.work.specs.declared.run.Parked.TheVariants.{NotReady, PipeBusy}
use Rattle.work.specs.declared.run.Ran.{Ran}
use Rattle.work.specs.declared.run.Ran.TheVariants.{Replied, Parked}
use Rattle.board.specs.Calls.{Finds, Goes}
use Rattle.board.specs.declared.phase.Phase.{Phase as Standing}
use Rattle.board.specs.declared.phase.Phase.TheVariants.{Unborn, Done, Gone}
use Rattle.ready.specs.Ready.{Moves}
use Rattle.outbox.specs.Outbox.{Places}

-- a worker's desk: its pass of the ready queue, the numbers that are still to go there, and for how many it has room
pub record Desk : Type 0 where
  pub ready : Moves
  pub kept : List Req
  pub places : ℕ

-- the most numbers that a turn has to keep, by the cells of the rings: its own, and two for each cell that its run took along
abbrev pub most_kept : List ℕ → ℕ
most_kept K = 2 * total K + 1

-- the desk put numbers into the ready queue and took some out. However numbers are counted, what it had kept and taken, and was given, is what it put, keeps and gave out
pub record Shifts (old : Desk) (given : List Req) (out : List Req) (new : Desk) : Type 0 where
  pub puts : List Req
  pub takes : List Req
  pub ready : new.ready ≡ record old.ready { put = old.ready.put ++ puts; taken = old.ready.taken ++ takes }
  pub numbers : (h : Req → ℕ) → sum_by h old.kept + (sum_by h takes + sum_by h given) ≡ sum_by h puts + (sum_by h new.kept + sum_by h out)

-- the requests that a run answered, which left the worker so: those that a cancel took, and then the one that it ran
abbrev pub answered_in : Req → Pass → Ran → List Req
answered_in r q (Replied cqe) = q.took ++ r ∷ []
answered_in r q (Parked why) = []

-- the number that a run is done with: its request was answered, or lies with its pipes
abbrev pub ended_in : Req → Ran → List Req
ended_in r (Replied cqe) = r ∷ []
ended_in r (Parked NotReady) = r ∷ []
ended_in r (Parked PipeBusy) = []

-- the number of a request that stands so, where it can't be begun any more
abbrev pub past_in : Req → Standing → List Req
past_in r Unborn = r ∷ []
past_in r (Done res) = r ∷ []
past_in r Gone = r ∷ []
past_in r _ = []

-- the worker began the request and ran it. By all that it has then seen, nothing that lies with each of its pipes has an answer
pub record Worked (b : Facts) (r : Req) (p q : Pass) (ran : Ran) : Type 0 where
  pub busy : Running
  pub of : (busy.req ≡ r) × IsOf b busy.pass
  pub begun : Extends p.view (Did (Begin r)) (Busy r) busy.pass.view
  pub run : IsRun busy q ran
  pub woken : (e : Entry) → IsPlaced (seen_of busy.pass) busy.req e → HasWoken busy q e ran
  pub awake : NoneSleeps b.layout q.view.seen

-- the worker did not get to run the request, whose word wasn't Ready, and then looked where it stands: it is done with the number where that can't be begun any more
pub record Refused (b : Facts) (r : Req) (p q : Pass) (gone : List Req) : Type 0 where
  pub mid : Pass
  pub tried : (mid.view ≡ p.view) ⊎ Looks p.view mid.view
  pub refused : (length b.layout.cells ≤ r.ring) ⊎ FoundNotReady b.layout.cells r p.view mid.view
  pub looked : Goes b mid [] q
  pub stands : Standing
  pub finds : Finds b r stands mid q
  pub gone_is : gone ≡ past_in r stands

-- what became of a worker that tried the request: the requests `rs` were answered, it is done with the number `gone`, and took the numbers `woken` along
abbrev pub Tried : Facts → Req → Pass → Pass → List Req → List Req → List Req → Type 0
Tried b r p q rs gone woken = (Refused b r p q gone × (rs ≡ []) × (woken ≡ [])) ⊎ ((ran : Ran) × Worked b r p q ran × (rs ≡ answered_in r q ran) × (gone ≡ ended_in r ran) × (woken ≡ q.woken))

-- what became of a worker in a turn: it had no request to try, or it tried one
abbrev pub Serves : Facts → Pass → Pass → List Req → List Req → List Req → Type 0
Serves b p q rs gone woken = ((q ≡ p) × (rs ≡ []) × (gone ≡ []) × (woken ≡ [])) ⊎ ((r : Req) × Tried b r p q rs gone woken)

-- a turn of a worker and its desk: it ran at most one request, what its events answered is in the outbox, each once, and no number was lost: each that it had, or took out, or took along from a pipe, it put into the queue, or keeps, or is done with
pub record IsWorkTurn (b : Facts) (old new : Desk) (p q : Pass) (before after : Places) : Type 0 where
  pub of : IsOf b q
  pub answered : List Req
  pub gone : List Req
  pub woken : List Req
  pub serves : Serves b p q answered gone woken
  pub outbox : after ≡ record before { items = before.items ++ answered }
  pub numbers : Shifts old woken gone new

-- the desk put some of the numbers that it had kept into the ready queue, and keeps the others. It took none from there
pub record PutsBack (old new : Desk) : Type 0 where
  pub puts : List Req
  pub ready : new.ready ≡ record old.ready { put = old.ready.put ++ puts }
  pub numbers : (h : Req → ℕ) → sum_by h old.kept ≡ sum_by h puts + sum_by h new.kept

-- a turn that found no number: none was taken from the ready queue, and each that was kept before is in the queue
abbrev pub FoundNone : Desk → Desk → Type 0
FoundNone old new = PutsBack old new × (new.kept ≡ [])
