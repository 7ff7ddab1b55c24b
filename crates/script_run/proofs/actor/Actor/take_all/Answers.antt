use Rattle.script_run.proofs.Common.{[], ap, refl, ◌++◌, ◌∙◌, ◌∷◌}
use Rattle.script_run.proofs.ActorSteps.{went_looked, went_took, went_still, went_then}
use Rattle.script_run.proofs.actor.Actor.take_all.Goals as goal

pub returns-in_err-reserve : goal.returns-in_err-reserve
returns-in_err-reserve g c = went_then c.args.self.now c.loop.self _ c.loop.invariant (went_still c.loop.self _ refl c.reserve.ensures.items refl)

pub returns-in_default : goal.returns-in_default
returns-in_default g c = let e = c.in_default.ensures in went_then c.args.self.now c.loop.self _ c.loop.invariant (went_looked c.loop.self.client.board c.loop.self _ e.same.0 e.same.1 c.reserve.ensures.items refl e.reaped)

pub loop-preserved : goal.loop-preserved
loop-preserved g c =
    let e = c.in-Some-take.ensures in let x = c.in-Some-take.completion in
    let all = c.in_ok-push.ensures.items ∙ ap (λ xs. xs ++ x ∷ []) c.reserve.ensures.items in
    went_then c.args.self.now c.loop.self _ c.loop.invariant (went_took c.loop.self.client.board c.loop.self _ x e.same.0 e.same.1 all refl e.reaped e.completion.0)
