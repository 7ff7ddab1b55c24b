use Rattle.commands.proofs.Telling.{all_or_some, some_kept}
use Rattle.commands.proofs.told.put_states.Goals as goal

pub returns : goal.returns
returns g c = some_kept _ _ _ _ (all_or_some c.put_number.result _ _ _ c.put_number.ensures.all c.put_number.ensures.begun) c.flush.ensures.bytes
