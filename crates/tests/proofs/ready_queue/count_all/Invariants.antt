use Rattle.std.proofs.Common.{All, length}
use Rattle.ready.specs.Ready.{IsQueuePass}
use Rattle.tests.proofs.ready_queue.count_all.Given as goal

abbrev pub invariant-loop-hand : goal.invariant-loop-hand
invariant-loop-hand l = All (λ h. IsQueuePass l.queue h.pass) l.hands.items × All (λ p. IsQueuePass l.queue p) l.passes.items

abbrev pub decreases-loop-hand : goal.decreases-loop-hand
decreases-loop-hand l = length l.hands.items
