use Rattle.runtime.proofs.Common.{HasNoticed, Notifying, subst}
use Rattle.runtime.proofs.sleeping.Caller.call_all.Goals as goal

pub returns : goal.returns
returns c = subst (λ (n : Notifying). HasNoticed n c.notify_all.new.notifier c.notify_all.result) c.self.view_is c.notify_all.ensures.noticed
