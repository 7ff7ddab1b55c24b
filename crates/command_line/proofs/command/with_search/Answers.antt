use Rattle.command_line.proofs.command.with_search.Goals as goal

pub returns : goal.returns
returns c = λ app is.
    let w1 = c.with_arg-command.ensures _ _ is c.limit.ensures in
    let w2 = c.with_arg-command-2.ensures _ _ w1 c.progress.ensures in
    let w3 = c.with_arg-command-3.ensures _ _ w2 c.json.ensures in
    c.with_arg.ensures _ _ w3 c.file.ensures
