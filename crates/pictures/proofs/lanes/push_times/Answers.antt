use Rattle.pictures.proofs.Common.{[], refl, replicate, ◌∷◌}
use Rattle.pictures.proofs.Turns.{counts}
use Rattle.pictures.proofs.lanes.push_times.Goals as goal

pub loop-done-preserved : goal.loop-done-preserved
loop-done-preserved c = counts (λ i k. replicate k c.args.byte) c.args.count c.loop-done.done _ _ (c.args.byte ∷ []) _ c.loop-done-test.true (λ k. refl) c.loop-done.invariant c.in_ok-push.ensures.items
