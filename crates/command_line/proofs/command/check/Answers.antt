use Rattle.command_line.proofs.command.check.Goals as goal

pub returns : goal.returns
returns c = c.with_arg.ensures _ _ (c.with_search.ensures _ c.described-command.ensures) c.tables.ensures
