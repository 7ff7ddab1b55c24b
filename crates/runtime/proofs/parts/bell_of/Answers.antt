use Rattle.runtime.proofs.RuntimeParts.{new_ringers}
use Rattle.runtime.proofs.parts.bell_of.Goals as goal

pub returns-in-Ok-clause-ringers : goal.returns-in-Ok-clause-ringers
returns-in-Ok-clause-ringers c = (new_ringers _ _ _ _ c.in-Ok.ensures.new, c.in-Ok.ensures.new.count)
