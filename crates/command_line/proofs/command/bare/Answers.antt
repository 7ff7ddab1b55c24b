use Rattle.command_line.proofs.CommandLines.{settles}
use Rattle.command_line.proofs.command.bare.Goals as goal

pub returns : goal.returns
returns c = settles _ _ _ _ _ _ _ _ _ _ c.version.ensures c.about.ensures c.after_help.ensures c.subcommand_required.ensures c.arg_required_else_help.ensures (c.new.ensures.app, c.new.ensures.local)
