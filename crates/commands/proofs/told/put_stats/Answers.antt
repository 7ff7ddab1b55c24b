use Rattle.commands.specs.declared.told.Stats.{Stats}
use Rattle.commands.proofs.Common.{Option, PutsCounts, subst, sym}
use Rattle.commands.proofs.Telling.{all_or_some, some_kept}
use Rattle.commands.proofs.told.put_stats.Goals as goal

pub returns : goal.returns
returns g c =
    subst (λ (o : Option Stats). PutsCounts o (g.E.Write.contents c.args.err.now) (g.E.Write.contents c.flush.new.self)) (sym c.in-Some.is)
    (some_kept _ _ _ _ (all_or_some c.put_counts.result _ _ _ c.put_counts.ensures.all c.put_counts.ensures.begun) c.flush.ensures.bytes)
