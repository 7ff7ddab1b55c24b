use Rattle.command_line.proofs.command.command.Goals as goal

pub returns : goal.returns
returns c =
    let first = c.with_command-command.ensures _ _ c.bare.ensures c.run.ensures in
    let second = c.with_command-command-2.ensures _ _ first c.outcomes.ensures in
    let third = c.with_command-command-3.ensures _ _ second c.history.ensures in
    c.with_command.ensures _ _ third c.check.ensures
