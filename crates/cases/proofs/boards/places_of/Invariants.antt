use Rattle.std.proofs.Common.{All, length}
use Rattle.work.specs.Board.{IsOf}
use Rattle.cases.specs.Cast.{AreIn}
use Rattle.cases.proofs.boards.places_of.Given as goal

abbrev pub invariant-loop-worker : goal.invariant-loop-worker
invariant-loop-worker l = record {
  workers : All (λ p. IsOf l.board p) l.workers.items;
  idle : AreIn (λ p. IsOf l.board p) l.idle.items;
  busy : AreIn (λ a. IsOf l.board a.busy.pass) l.busy.items;
}

abbrev pub decreases-loop-worker : goal.decreases-loop-worker
decreases-loop-worker l = length l.workers.items
