use Rattle.command_line.proofs.Common.{IsApp, codes, new_app}
use Rattle.command_line.proofs.CommandLines.{explains}
use Rattle.command_line.proofs.command.history.Goals as goal

pub returns : goal.returns
returns c =
    let w0 : IsApp c.after_help-command.result (new_app (codes "history")) = explains _ _ _ _ _ _ c.about.ensures c.after_help-command.ensures (c.new.ensures.app, c.new.ensures.local) in
    let w1 = c.with_arg.ensures _ _ w0 c.flag-first.ensures in
    let w2 = c.with_arg-command.ensures _ _ w1 c.flag-second.ensures in
    c.with_arg-2.ensures _ _ (c.with_search.ensures _ w2) c.table.ensures
