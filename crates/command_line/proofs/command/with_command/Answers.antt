use Rattle.std.specs.Result.{IfOk}
use Rattle.command_line.proofs.Common.{IfOk-weaker, IsApp, subst}
use Rattle.command_line.proofs.CommandLines.{adds_command}
use Rattle.command_line.proofs.command.with_command.Goals as goal

pub returns : goal.returns
returns c = λ app one above below. IfOk-weaker c.subcommand.result _ _
    (λ z adds. adds_command _ _ z app one (subst (λ r. IfOk r (λ m. IsApp m app)) c.in_ok-command.was above) (subst (λ r. IfOk r (λ m. IsApp m one)) c.in_ok-other.was below) adds) c.subcommand.ensures
