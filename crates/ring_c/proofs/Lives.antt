-- A board that is opened.
use Rattle.board.specs.declared.shape.Shape.{Shape}
use Rattle.board.specs.New.{IsNew}
use Rattle.ring_c.specs.Lives.{IsMade, IsShapeOf}
use Rattle.ring_c.proofs.Common.{Code, DeskFacts, Err, Facts, IfOk, List, Ok, Pass, Result, [], refl, subst, sym, ℕ, ◌≡◌}

pub made_of : (rings pipes : List ℕ) (n : ℕ) (s : Shape) (b : Facts) (p : Pass) (cs ws : List Pass) (a : Result DeskFacts Code) → IsShapeOf rings pipes n s → IsNew s b p cs ws
    → IfOk a (λ d. d ≡ record { board = b; pass = p; clients = cs; workers = ws; ready = []; answered = [] }) → IfOk a (λ d. IsMade rings pipes n d)
made_of rings pipes n s b p cs ws (Ok d) is new e = subst (λ (x : DeskFacts). IsMade rings pipes n x) (sym e) (s, is, new, refl, refl)
made_of rings pipes n s b p cs ws (Err c) is new e = tt
