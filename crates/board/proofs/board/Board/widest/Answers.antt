use Rattle.board.proofs.Common.{subst, sym, ℕ, ◌≤◌}
use Rattle.board.proofs.ShapeBounds.{widest_few}
use Rattle.board.proofs.board.Board.widest.Goals as goal

pub returns-clause-few : goal.returns-clause-few
returns-clause-few c = subst (λ (n : ℕ). n ≤ 1024) (sym c.self.invariant.3) (widest_few c.self.inside.grid c.self.invariant.0.cells.0)
