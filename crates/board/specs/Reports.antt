-- What a report tells of a board that was ended.
use Rattle.std.specs.Prelude.{◌≡◌, ◌<◌, ◌⊎◌, ◌↔◌, cond, Bool, true, negsuc, List, [], ◌∷◌}
use Rattle.history.specs.declared.req.Req.{Req}
use Rattle.history.specs.declared.event.Event.{Event}
use Rattle.history.specs.declared.event.Event.TheVariants.{Shut, Cut}
use Rattle.history.specs.History.{by_cut, replied, phase, submits}
use Rattle.history.specs.Legal.{Legal}
use Rattle.steps.specs.declared.line.Line.{Line}
use Rattle.steps.specs.{events_of, setup_of, Begins, Saw, IsReaped}
use Rattle.work.specs.{Facts, IsOf, Pass, seen_of}
use Rattle.board.specs.declared.completion.Completion.{Completion}
use Rattle.board.specs.Headline.{IsCompletion}

abbrev pub AreOf : Facts → List Pass → Type 0
AreOf b [] = Unit {0}
AreOf b (p ∷ ps) = IsOf b p × AreOf b ps

-- the history, and after it Shut and the Cuts of the lines that the end cut off
abbrev pub ended : List (Completion × Bool) → List Event → List Event
ended [] h = Shut ∷ h
ended (x ∷ lines) h = cond x.1 (Cut x.0.req ∷ ended lines h) (ended lines h)

-- by ring, then in the order of submission
abbrev pub IsBefore : Req → Req → Type 0
IsBefore r q = (r.ring < q.ring) ⊎ ((r.ring ≡ q.ring) × (r.k < q.k))

abbrev pub AreLater : Req → List (Completion × Bool) → Type 0
AreLater r [] = Unit {0}
AreLater r (x ∷ lines) = IsBefore r x.0.req × AreLater r lines

-- each line is of a later request than those before it, so that no request stands in it twice
abbrev pub Ordered : List (Completion × Bool) → Type 0
Ordered [] = Unit {0}
Ordered (x ∷ lines) = AreLater x.0.req lines × Ordered lines

-- the request has a line
abbrev pub IsListed : Req → List (Completion × Bool) → Type 0
IsListed r [] = ⊥
IsListed r (x ∷ lines) = (x.0.req ≡ r) ⊎ IsListed r lines

-- the line has its request's completion, and says whether the end cut it off
pub record Tells (h : List Event) (x : Completion × Bool) : Type 0 where
  pub completion : IsCompletion h x.0.req x.0
  pub cut : (x.1 ≡ true) ↔ (phase h x.0.req ≡ replied by_cut (negsuc 124))

abbrev pub AllTell : List Event → List (Completion × Bool) → Type 0
AllTell h [] = Unit {0}
AllTell h (x ∷ lines) = Tells h x × AllTell h lines

-- one of the passes has seen just this history
abbrev pub IsSeen : List Event → List Pass → Type 0
IsSeen h [] = ⊥
IsSeen h (p ∷ ps) = (seen_of p ≡ h) ⊎ IsSeen h ps

-- j begins with what each pass has seen
abbrev pub BeginsWith : List Line → List Pass → Type 0
BeginsWith j [] = Unit {0}
BeginsWith j (p ∷ ps) = Begins j p.view.seen × BeginsWith j ps

-- and continues after that without lines of the pass's own role
abbrev pub SawOwnLines : List Line → List Pass → Type 0
SawOwnLines j [] = Unit {0}
SawOwnLines j (p ∷ ps) = Saw p.view.role p.view.seen j × SawOwnLines j ps

-- the report of the board b with these passes: the longest that they have seen lacks no pass's own lines; followed by Shut and the Cuts alone it is legal, and just its requests without Reap have a line
pub record IsReport (b : Facts) (passes : List Pass) (lines : List (Completion × Bool)) : Type 0 where
  pub all : List Line
  pub longest : IsSeen (events_of all) passes
  pub begins : BeginsWith all passes
  pub own : SawOwnLines all passes
  pub legal : Legal (setup_of b.layout) (ended lines (events_of all))
  pub ordered : Ordered lines
  pub unreaped : (r : Req) → ((r.k < submits (ended lines (events_of all)) r.ring) × (¬ IsReaped (phase (ended lines (events_of all)) r))) ↔ IsListed r lines
  pub answered : (r : Req) → r.k < submits (ended lines (events_of all)) r.ring → IsReaped (phase (ended lines (events_of all)) r) ⊎ IsListed r lines
  pub tells : AllTell (ended lines (events_of all)) lines
