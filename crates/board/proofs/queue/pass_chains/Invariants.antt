use Rattle.board.proofs.Common.{◌-◌}
use Rattle.board.proofs.QueueWalks.{Passing}
use Rattle.board.proofs.queue.pass_chains.Given as goal

-- nothing but the request up to which all chains are done has changed
abbrev pub invariant-loop-queue : goal.invariant-loop-queue
invariant-loop-queue l = Passing l.fn.seat l.seat l.fn.queue l.queue l.end

abbrev pub decreases-loop-queue : goal.decreases-loop-queue
decreases-loop-queue l = l.end - l.queue.done
