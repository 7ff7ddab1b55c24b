use Rattle.runtime.proofs.TurnLaws.{rang_moved}
use Rattle.runtime.proofs.releasing.take_up.Goals as goal

pub returns-clause-went_on : goal.returns-clause-went_on
returns-clause-went_on c = λ o. rang_moved _ _ _ o _ (c.forget_before.ensures.went_on o)
