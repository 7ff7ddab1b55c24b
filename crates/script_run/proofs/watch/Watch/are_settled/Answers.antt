use Rattle.script_run.proofs.Common.{refl}
use Rattle.script_run.proofs.ActorSteps.{went_looked, went_then}
use Rattle.script_run.proofs.watch.Watch.are_settled.Goals as goal

pub returns-then-not-is_settled : goal.returns-then-not-is_settled
returns-then-not-is_settled c = let e = c.look-phase.ensures in went_then c.args.actor.now c.loop-request.actor _ c.loop-request.invariant (went_looked c.loop-request.actor.client.board c.loop-request.actor _ e.same.0 e.same.1 refl refl e.looks)

pub loop-request-preserved : goal.loop-request-preserved
loop-request-preserved c = let e = c.look-phase.ensures in went_then c.args.actor.now c.loop-request.actor _ c.loop-request.invariant (went_looked c.loop-request.actor.client.board c.loop-request.actor _ e.same.0 e.same.1 refl refl e.looks)
