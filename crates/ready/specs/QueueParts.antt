-- What the parts of the queue's calls say.
use Rattle.std.specs.Prelude.{◌≡◌, ℕ, ◌≤◌, List, [], ◌++◌, ◌∷◌, Option, Some, None}
use Rattle.ready.specs.declared.span.Span.{Span}
use Rattle.ready.specs.Ready.{room_of}

-- a span that is left, as a list of spans
abbrev pub listed : Option Span → List Span
listed None = []
listed (Some s) = s ∷ []

-- what was drawn, from what the pass had left or else from the queue, where the spans that it took out went from the one list to the other: nothing, or a span that what it took out now ends with
abbrev pub HasDrawn : List Span → Option Span → List Span → Option Span → Type 0
HasDrawn old None new None = new ≡ old
HasDrawn old None new (Some s) = new ≡ old ++ s ∷ []
HasDrawn old (Some rest) new None = ⊥
HasDrawn old (Some rest) new (Some s) = (new ≡ old) × (s ≡ rest)

-- for how many spans that passes have left, spans in the queue, and requests there is room
pub record Room : Type 0 where
  pub rests : ℕ
  pub spans : ℕ
  pub left : ℕ

-- room for the spans of this many places and passes, and for all their requests
pub record IsRoom (places passes : ℕ) (r : Room) : Type 0 where
  pub rests : passes ≤ r.rests
  pub spans : places ≤ r.spans
  pub left : room_of places passes ≤ r.left
