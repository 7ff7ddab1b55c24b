use Rattle.script_run.proofs.Common.{ap, refl}
use Rattle.script_run.proofs.ActorSteps.{handed, went_looked}
use Rattle.script_run.proofs.actor.Actor.try_submit.Goals as goal

pub returns-in-Ok : goal.returns-in-Ok
returns-in-Ok c = let e = c.in-Ok.ensures in handed _ _ c.in-Ok._first c.args.batch.items e.same.0 e.same.1 refl e.submitted.0 e.submitted.1

pub returns-in-Err-Full-default : goal.returns-in-Err-Full-default
returns-in-Err-Full-default c = let e = c.in-Err-Full-default.ensures in (went_looked c.args.self.now.client.board _ _ e.same.0 e.same.1 refl refl e.refused.0, ap (λ b. b.items) e.refused.1, rw c.in-Err-Full-default.field-0-0-is at e.reason)

pub returns-in-Err : goal.returns-in-Err
returns-in-Err c = let e = c.in-Err.ensures in went_looked c.args.self.now.client.board _ _ e.same.0 e.same.1 refl refl e.refused.0
