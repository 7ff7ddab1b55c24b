-- What a call makes of what a handle leads to.
use Rattle.std.specs.Prelude.{◌≡◌, ◌⊎◌, ◌++◌, ℕ, Bool, [], ◌∷◌, List, length, map, Option, Some, None, Result, Ok, Err}
use Rattle.entry.specs.declared.cqe.Cqe.{Cqe}
use Rattle.history.specs.declared.req.Req.{Req}
use Rattle.work.specs.{Facts, Pass}
use Rattle.board.specs.declared.completion.Completion.{Completion}
use Rattle.board.specs.declared.phase.Phase.{Phase}
use Rattle.board.specs.{Goes, Finds, IsReport}
use Rattle.ring_c.specs.declared.code.Code.{Code}
use Rattle.ring_c.specs.declared.code.Code.TheVariants.{Closed, WrongKind, Memory, Missing}
use Rattle.ring_c.specs.declared.inside.Inside.{Inside}
use Rattle.ring_c.specs.declared.inside.Inside.TheVariants.{Client, Hand, Desk, Report}
use Rattle.ring_c.specs.Sides.{ClientFacts, DeskFacts, HandFacts}
use Rattle.ring_c.specs.ClientCalls.{ReapsAt, Shows, Submits}
use Rattle.ring_c.specs.HandCalls.{RunsAt}
use Rattle.ring_c.specs.DeskCalls.{IsFull, IsStill, Ticks}
use Rattle.ring_c.specs.Turns.{IsTurn}
use Rattle.ring_c.specs.Numbers.{number_for}
use Rattle.ring_c.specs.declared.number.Number.{Number}
use Rattle.ring_c.specs.declared.results.Turn.{Turn}

module _ {X : Type 0} where
  -- through a handle that leads to nothing nothing is done
  abbrev pub Through : (Inside → Inside → Result X Code → Type 0) → Option Inside → Option Inside → Result X Code → Type 0
  Through P None new a = (a ≡ Err Closed) × (new ≡ None)
  Through P (Some x) new a = (y : Inside) × (new ≡ Some y) × P x y a

  -- a call of clients
  abbrev pub OfClient : (ClientFacts → ClientFacts → Result X Code → Type 0) → Inside → Inside → Result X Code → Type 0
  OfClient P (Client x) y a = (z : ClientFacts) × (y ≡ Client z) × (z.board ≡ x.board) × P x z a
  OfClient P i y a = (a ≡ Err WrongKind) × (y ≡ i)

  -- a call of workers
  abbrev pub OfHand : (HandFacts → HandFacts → Result X Code → Type 0) → Inside → Inside → Result X Code → Type 0
  OfHand P (Hand x) y a = (z : HandFacts) × (y ≡ Hand z) × (z.board ≡ x.board) × P x z a
  OfHand P i y a = (a ≡ Err WrongKind) × (y ≡ i)

  -- a call of pollers
  abbrev pub OfDesk : (DeskFacts → DeskFacts → Result X Code → Type 0) → Inside → Inside → Result X Code → Type 0
  OfDesk P (Desk x) y a = (z : DeskFacts) × (y ≡ Desk z) × P x z a
  OfDesk P i y a = (a ≡ Err WrongKind) × (y ≡ i)

-- the pass found the request so
abbrev pub Finding : Facts → Req → Pass → Pass → Result Phase Code → Type 0
Finding b r p q (Ok s) = Goes b p [] q × Finds b r s p q
Finding b r p q (Err code) = ⊥

-- a look by a pass of any kind
abbrev pub LooksIn : Req → Inside → Inside → Result Phase Code → Type 0
LooksIn r (Client x) y a = (q : Pass) × (y ≡ Client (record x { pass = q })) × Finding x.board r x.pass q a
LooksIn r (Hand x) y a = (q : Pass) × (y ≡ Hand (record x { pass = q })) × Finding x.board r x.pass q a
LooksIn r (Desk x) y a = (q : Pass) × (y ≡ Desk (record x { pass = q })) × Finding x.board r x.pass q a
LooksIn r i y a = (a ≡ Err WrongKind) × (y ≡ i)

abbrev pub SubmitsThe : List ℕ → List ℕ → ClientFacts → ClientFacts → Result ℕ Code → Type 0
SubmitsThe es bs x z a = (z.bytes ≡ x.bytes) × Submits es bs x.board x.pass z.pass a

abbrev pub ReapsThe : Req → ClientFacts → ClientFacts → Result (Cqe × ℕ) Code → Type 0
ReapsThe r x z a = ReapsAt x.board r x.pass z.pass x.bytes z.bytes a

abbrev pub GivesBytes : List ℕ → List ℕ → ClientFacts → ClientFacts → Result ℕ Code → Type 0
GivesBytes old new x z a = (z ≡ x) × Shows x.bytes old new a

abbrev pub GivesTook : List Number → List Number → HandFacts → HandFacts → Result ℕ Code → Type 0
GivesTook old new x z a = (z ≡ x) × Shows (map number_for x.pass.took) old new a

abbrev pub WorksAt : Req → HandFacts → HandFacts → Result (Cqe × ℕ) Code → Type 0
WorksAt r x z a = RunsAt x.board r x.pass z.pass a

-- a turn, which the arrays then tell of
abbrev pub PollsThe : List Number → List Number → List Number → List Number → DeskFacts → DeskFacts → Result Turn Code → Type 0
PollsThe r s a b x z (Ok t) = IsStill x z × IsTurn x.board x.pass z.pass z.ready z.answered × Shows (map number_for z.ready) r s (Ok t.ready) × Shows (map number_for z.answered) a b (Ok t.answered)
PollsThe r s a b x z (Err code) = ⊥

abbrev pub TicksAt : ℕ → DeskFacts → DeskFacts → Result (Unit {0}) Code → Type 0
TicksAt to x z a = (z ≡ record x { pass = z.pass }) × Ticks x.board to x.pass z.pass a

-- the end of a board, at which all passes are back, with how many lines the report has
abbrev pub Ends : DeskFacts → Inside → Result ℕ Code → Type 0
Ends x y (Ok n) = (lines : List (Completion × Bool)) × (n ≡ length lines) × (y ≡ Report lines) × IsFull x × IsReport x.board (x.pass ∷ (x.clients ++ x.workers)) lines
Ends x y (Err code) = (y ≡ Desk x) × ((code ≡ Memory) ⊎ (code ≡ Missing)) × ((IsFull x → ⊥) → code ≡ Missing)

abbrev pub EndsIn : Inside → Inside → Result ℕ Code → Type 0
EndsIn (Desk x) y a = Ends x y a
EndsIn i y a = (a ≡ Err WrongKind) × (y ≡ i)
