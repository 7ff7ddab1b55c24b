use Rattle.std.specs.Result.{IfOk}
use Rattle.command_line.proofs.Common.{IfOk-weaker, IsApp, subst}
use Rattle.command_line.proofs.CommandLines.{adds_word}
use Rattle.command_line.proofs.command.with_arg.Goals as goal

pub returns : goal.returns
returns c = λ app rule is read. IfOk-weaker c.arg.result _ _ (λ z adds. adds_word _ _ z app rule (subst (λ r. IfOk r (λ m. IsApp m app)) c.in_ok-command.was is) read adds) c.arg.ensures
