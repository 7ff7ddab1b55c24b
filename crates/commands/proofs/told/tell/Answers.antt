use Rattle.commands.proofs.Common.{AppendsSome, subst}
use Rattle.commands.proofs.Telling.{all_or_some, some_kept}
use Rattle.commands.proofs.told.tell.Goals as goal

pub returns-clause-line : goal.returns-clause-line
returns-clause-line g c =
    let went = all_or_some c.put_line.result _ _ _ c.put_line.ensures.all c.put_line.ensures.begun in
    some_kept _ _ _ _ (subst (AppendsSome (g.E.Write.contents c.args.err.now) (g.E.Write.contents c.put_line.new.out)) c.line-line.ensures went) c.flush.ensures.bytes
