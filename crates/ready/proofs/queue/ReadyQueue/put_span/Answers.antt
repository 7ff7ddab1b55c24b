use Rattle.ready.proofs.Common.{arith}
use Rattle.ready.proofs.Balance.{puts}
use Rattle.ready.proofs.queue.ReadyQueue.put_span.Goals as goal

pub push_as-requires-clause-rule : goal.push_as-requires-clause-rule
push_as-requires-clause-rule g c = let i = c.pass.invariant in let s = i.share_is in let p = i.some in (puts _ _ _ _ (omega arith), λ items views b at. tt)
