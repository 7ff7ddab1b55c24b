use Rattle.ready.proofs.Balance.{merges}
use Rattle.ready.proofs.queue.take_in.Goals as goal

pub absorb-requires-clause-rule : goal.absorb-requires-clause-rule
absorb-requires-clause-rule c = merges _ _ _ _ c.loop-pass.invariant.some
