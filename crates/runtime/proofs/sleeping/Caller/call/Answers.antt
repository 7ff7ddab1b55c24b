use Rattle.runtime.proofs.Common.{HasNoticed, Notifying, subst}
use Rattle.runtime.proofs.sleeping.Caller.call.Goals as goal

pub returns : goal.returns
returns c = subst (λ (n : Notifying). HasNoticed n c.notify.new.notifier c.notify.result) c.self.view_is c.notify.ensures.noticed
