use Rattle.command_line.proofs.CommandLines.{explains_more}
use Rattle.command_line.proofs.command.described.Goals as goal

pub returns : goal.returns
returns c = explains_more _ _ _ _ _ _ _ _ c.about.ensures c.long_about.ensures c.after_help.ensures (c.new.ensures.app, c.new.ensures.local)
