use Rattle.script_run.proofs.Common.{[], ap, refl, ◌++◌, ◌∙◌, ◌∷◌}
use Rattle.script_run.proofs.ActorSteps.{went_looked, went_took, went_still}
use Rattle.script_run.proofs.actor.Actor.take_within.Goals as goal

pub returns-in_err-reserve : goal.returns-in_err-reserve
returns-in_err-reserve g c = went_still c.args.self.now _ refl c.reserve.ensures.items refl

pub returns-in_default : goal.returns-in_default
returns-in_default g c = let e = c.in_default.ensures in went_looked c.args.self.now.client.board c.args.self.now _ e.same.0 e.same.1 c.reserve.ensures.items refl e.reaped

pub returns : goal.returns
returns g c =
    let e = c.in-Some.ensures in let x = c.in-Some.completion in
    let all = c.in_ok-push.ensures.items ∙ ap (λ xs. xs ++ x ∷ []) c.reserve.ensures.items in
    went_took c.args.self.now.client.board c.args.self.now _ x e.same.0 e.same.1 all refl e.reaped e.completion.0
