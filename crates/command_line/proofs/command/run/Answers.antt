use Rattle.command_line.proofs.command.run.Goals as goal

pub returns : goal.returns
returns c =
    let w1 = c.with_arg-command.ensures _ _ c.described-command.ensures c.workers.ensures in
    let w2 = c.with_arg-command-2.ensures _ _ w1 c.turns.ensures in
    let w3 = c.with_arg-command-3.ensures _ _ w2 c.times.ensures in
    let w4 = c.with_arg-command-4.ensures _ _ w3 c.json.ensures in
    c.with_arg.ensures _ _ w4 c.file.ensures
