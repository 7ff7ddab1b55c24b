-- How a board is opened, how its passes leave its poller's desk and come back.
use Rattle.std.specs.Prelude.{◌≡◌, ◌⊎◌, ℕ, ◌++◌, [], ◌∷◌, List, Bool, true, false, Option, Some, None, Result, Ok, Err}
use Rattle.board.specs.declared.shape.Shape.{Shape}
use Rattle.board.specs.{IsNew, counts, is_shape}
use Rattle.ring_c.specs.declared.code.Code.{Code}
use Rattle.ring_c.specs.declared.code.Code.TheVariants.{BadShape, InUse, Memory}
use Rattle.ring_c.specs.declared.inside.Inside.{Inside}
use Rattle.ring_c.specs.declared.inside.Inside.TheVariants.{Client, Hand, Desk}
use Rattle.ring_c.specs.Sides.{ClientFacts, DeskFacts, HandFacts}

-- the shape has rings of this many cells, pipes of this many bytes, and this many workers
abbrev pub IsShapeOf : List ℕ → List ℕ → ℕ → Shape → Type 0
IsShapeOf rings pipes workers s = (counts s.rings.items ≡ rings) × (s.pipes.items ≡ pipes) × (s.workers ≡ workers)

-- the desk of a new board of that shape, at which all passes are
abbrev pub IsMade : List ℕ → List ℕ → ℕ → DeskFacts → Type 0
IsMade rings pipes workers x = (s : Shape) × IsShapeOf rings pipes workers s × IsNew s x.board x.pass x.clients x.workers × (x.ready ≡ []) × (x.answered ≡ [])

-- why there is no such board: there was no memory, or the shape is outside its limits
abbrev pub IsUnmade : List ℕ → List ℕ → ℕ → Code → Type 0
IsUnmade rings pipes workers BadShape = (s : Shape) × IsShapeOf rings pipes workers s × (is_shape s ≡ false)
IsUnmade rings pipes workers Memory = Unit {0}
IsUnmade rings pipes workers code = ⊥

-- the handle leads to the desk of a new board, or is the same
abbrev pub Opens : List ℕ → List ℕ → ℕ → Option Inside → Option Inside → Result (Unit {0}) Code → Type 0
Opens rings pipes workers old new (Ok u) = (x : DeskFacts) × (new ≡ Some (Desk x)) × IsMade rings pipes workers x
Opens rings pipes workers old new (Err code) = (new ≡ old) × ((code ≡ InUse) ⊎ IsUnmade rings pipes workers code)

-- the last client at the desk leaves it
abbrev pub GivesClient : Inside → Inside → Inside → Type 0
GivesClient (Desk x) y m = (z : DeskFacts) × (c : ClientFacts) × (y ≡ Desk z) × (m ≡ Client c) × (c.board ≡ x.board) × (c.bytes ≡ []) × (x ≡ record z { clients = z.clients ++ c.pass ∷ [] })
GivesClient i y m = ⊥

-- the last worker at the desk leaves it
abbrev pub GivesHand : Inside → Inside → Inside → Type 0
GivesHand (Desk x) y m = (z : DeskFacts) × (h : HandFacts) × (y ≡ Desk z) × (m ≡ Hand h) × (h.board ≡ x.board) × (x ≡ record z { workers = z.workers ++ h.pass ∷ [] })
GivesHand i y m = ⊥

-- the last of those passes leaves it
abbrev pub GivesPass : Bool → Inside → Inside → Inside → Type 0
GivesPass true i y m = GivesHand i y m
GivesPass false i y m = GivesClient i y m

-- a pass leaves the desk that one handle leads to, and the other leads to it; or both are the same
abbrev pub GivesOut : (Inside → Inside → Inside → Type 0) → Option Inside → Option Inside → Option Inside → Option Inside → Result (Unit {0}) Code → Type 0
GivesOut G p q c d (Ok u) = (x : Inside) × (y : Inside) × (m : Inside) × (p ≡ Some x) × (q ≡ Some y) × (d ≡ Some m) × G x y m
GivesOut G p q c d (Err code) = (q ≡ p) × (d ≡ c)

-- they are of one board, where the first is a poller and the second another pass
abbrev pub AreOfTwo : Inside → Inside → Type 0
AreOfTwo (Desk x) (Client c) = c.board ≡ x.board
AreOfTwo (Desk x) (Hand h) = h.board ≡ x.board
AreOfTwo i j = Unit {0}

abbrev pub AreOfOne : Option Inside → Option Inside → Type 0
AreOfOne (Some i) (Some j) = AreOfTwo i j
AreOfOne i j = Unit {0}

-- the pass joins those at the desk
abbrev pub TakesIn : Inside → Inside → Inside → Type 0
TakesIn (Desk x) y (Client c) = y ≡ Desk (record x { clients = x.clients ++ c.pass ∷ [] })
TakesIn (Desk x) y (Hand h) = y ≡ Desk (record x { workers = x.workers ++ h.pass ∷ [] })
TakesIn i y j = ⊥

-- the pass that the second handle led to joins those at the desk that the first leads to; or both are the same
abbrev pub TakesBack : Option Inside → Option Inside → Option Inside → Option Inside → Result (Unit {0}) Code → Type 0
TakesBack p q c d (Ok u) = (x : Inside) × (y : Inside) × (m : Inside) × (p ≡ Some x) × (q ≡ Some y) × (c ≡ Some m) × (d ≡ None) × TakesIn x y m
TakesBack p q c d (Err code) = (q ≡ p) × (d ≡ c)
