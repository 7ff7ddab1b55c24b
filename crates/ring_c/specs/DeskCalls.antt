-- What a poller's calls do.
use Rattle.std.specs.Prelude.{◌≡◌, ℕ, [], ◌∷◌, length, Result, Ok, Err}
use Rattle.history.specs.declared.event.Event.TheVariants.{Tick}
use Rattle.work.specs.{Facts, Pass, seen_of}
use Rattle.board.specs.{Goes, IsPast}
use Rattle.ring_c.specs.declared.code.Code.{Code}
use Rattle.ring_c.specs.declared.code.Code.TheVariants.{ClockEnd}
use Rattle.ring_c.specs.Sides.{DeskFacts}

-- all passes are here
abbrev pub IsFull : DeskFacts → Type 0
IsFull x = (length x.clients ≡ length x.board.layout.cells) × (length x.workers ≡ x.board.workers)

-- the board and the passes that are here are the same
abbrev pub IsStill : DeskFacts → DeskFacts → Type 0
IsStill x y = (y.board ≡ x.board) × (y.clients ≡ x.clients) × (y.workers ≡ x.workers)

-- the clock was set to this tick, or doesn't go there
abbrev pub Ticks : Facts → ℕ → Pass → Pass → Result (Unit {0}) Code → Type 0
Ticks b to p q (Ok u) = Goes b p (Tick to ∷ []) q
Ticks b to p q (Err code) = (code ≡ ClockEnd) × (q ≡ p) × IsPast (seen_of p) to
