use Rattle.ready.proofs.Balance.{takes}
use Rattle.ready.proofs.queue.draw.Goals as goal

pub pop_as-requires-clause-rule : goal.pop_as-requires-clause-rule
pop_as-requires-clause-rule g c = (takes _ _ c.requires.some, λ items views b at. tt)
