use Rattle.ready.specs.Ready.{IsQueuePass}
use Rattle.tests.proofs.ready_queue.work.Given as goal

abbrev pub invariant-loop-n : goal.invariant-loop-n
invariant-loop-n g l = IsQueuePass l.queue l.hand.pass
