use Rattle.board.proofs.Common.{◌-◌, ◌≡◌}
use Rattle.board.proofs.QueueWalks.{Walking}
use Rattle.board.proofs.queue.pass_chain.Given as goal

-- the requests before k have replied, and each is linked to the next
abbrev pub invariant-loop-k : goal.invariant-loop-k
invariant-loop-k l = (l.queue ≡ l.fn.queue) × Walking l.fn.seat l.seat l.fn.queue l.k

abbrev pub decreases-loop-k : goal.decreases-loop-k
decreases-loop-k l = l.queue.next - l.k
