-- When the passes of a case are those of one board.
use Rattle.std.specs.Prelude.{List, Option, All, IfSome}
use Rattle.work.specs.Board.{Facts, IsOf}
use Rattle.cases.specs.declared.cast.Cast.{Cast}
use Rattle.cases.specs.declared.cast.Troop.{Troop}

-- what is in its place has the property
abbrev pub AreIn : {X : Type 0} → (X → Type 0) → List (Option X) → Type 0
AreIn P slots = All (λ o. IfSome o P) slots

-- all passes at their places are the board's own
pub record IsCast (b : Facts) (c : Cast) : Type 0 where
  pub poller : IsOf b c.poller
  pub submitters : All (λ p. IsOf b p) c.submitters.items
  pub idle : AreIn (λ p. IsOf b p) c.idle.items
  pub busy : AreIn (λ a. IsOf b a.busy.pass) c.busy.items

-- all passes of the troop are the board's own
pub record IsTroop (b : Facts) (t : Troop) : Type 0 where
  pub poller : IsOf b t.poller
  pub submitters : All (λ p. IsOf b p) t.submitters.items
  pub workers : All (λ p. IsOf b p) t.workers.items
