use Rattle.std.proofs.Common.{All, length}
use Rattle.work.specs.Board.{IsOf}
use Rattle.cases.specs.Cast.{AreIn}
use Rattle.cases.proofs.boards.workers_at.Given as goal

abbrev pub invariant-loop-slot : goal.invariant-loop-slot
invariant-loop-slot l = record {
  idle : AreIn (λ p. IsOf l.board p) l.idle.items;
  workers : All (λ p. IsOf l.board p) l.workers.items;
}

abbrev pub decreases-loop-slot : goal.decreases-loop-slot
decreases-loop-slot l = length l.idle.items
