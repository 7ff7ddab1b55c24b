use Rattle.runtime.proofs.RuntimeParts.{ringers_of}
use Rattle.tests.proofs.passes.bell_of.Goals as goal

pub returns-clause-ringers : goal.returns-clause-ringers
returns-clause-ringers c = ringers_of _ _ _ _ c.in_ok-new.ensures.new
