use Rattle.std.proofs.Common.{All, length}
use Rattle.ready.specs.Ready.{IsQueuePass}
use Rattle.tests.proofs.ready_queue.hands_of.Given as goal

abbrev pub invariant-loop-pass : goal.invariant-loop-pass
invariant-loop-pass l = All (λ p. IsQueuePass l.queue p) l.passes.items × All (λ h. IsQueuePass l.queue h.pass) l.hands.items

abbrev pub decreases-loop-pass : goal.decreases-loop-pass
decreases-loop-pass l = length l.passes.items
