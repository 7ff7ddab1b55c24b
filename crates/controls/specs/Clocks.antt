-- What a clock is asked with, and what may follow from its answer.
use Rattle.std.specs.Prelude.{◌≡◌, ℕ, ◌<◌, ◌⊎◌, List, ◌∷◌, ◌++◌, Option, Some, None}
use Rattle.history.specs.declared.req.Req.{Req}
use Rattle.history.specs.declared.event.Event.{Event}
use Rattle.history.specs.declared.event.Event.TheVariants.{Tick}
use Rattle.history.specs.{clock_of, ticked}
use Rattle.history.specs.Legal.{Allowed, Legal, Setup}
use Rattle.steps.specs.declared.line.Line.{Line}
use Rattle.steps.specs.Journal.{events_of}
use Rattle.board.specs.declared.phase.Phase.{Phase as Standing}
use Rattle.board.specs.Calls.{Stands}

-- the clock hears of the request that it asked for, which stands so as this journal tells, or it asked for none
abbrev pub Asked : List Line → Option Req → Option Standing → Type 0
Asked j None None = Unit {0}
Asked j None (Some s) = ⊥
Asked j (Some r) None = ⊥
Asked j (Some r) (Some s) = Stands j r s

-- the history may go on so after what the clock answered: by no Tick, or by the Tick to that time and no other. G says with which histories the clock then stands
abbrev pub Answers : (List Event → Type 0) → List Event → Option ℕ → Type 0
Answers G h None = G h
Answers G h (Some n) = (s : Setup) (more : List Event) → Legal s (more ++ h) → ticked more ≡ 0 → (Allowed s (more ++ h) (Tick n) → G (Tick n ∷ (more ++ h))) × (((n < clock_of (more ++ h)) ⊎ (2147483647 < n)) → G (more ++ h))

-- where the clock stood with the history and was given its time and how its request stands, it stands with the history as that continues with its answer
abbrev pub Advances : (List Event → Type 0) → (List Event → Type 0) → Option Req → ℕ → Option Standing → Option ℕ → Type 0
Advances F G asked now phase to = (j : List Line) → F (events_of j) → now ≡ clock_of (events_of j) → Asked j asked phase → Answers G (events_of j) to
