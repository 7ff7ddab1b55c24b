use Rattle.board.proofs.Common.{AreFit, drop, ◌↔◌}
use Rattle.board.proofs.batch.are_fit.Given as goal

-- the whole batch fits where what is left does
abbrev pub invariant-loop-sqe : goal.invariant-loop-sqe
invariant-loop-sqe l = AreFit l.fn.batch ↔ AreFit (drop l.sqe-index l.fn.batch)
