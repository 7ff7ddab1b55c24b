use Rattle.script_run.proofs.Common.{AllCarriedOut, CarriedOut, Actor, List, Script, [], subst, sym, ℕ, ◌++◌, ◌∷◌, ◌≡◌}
use Rattle.script_run.proofs.ActorLists.{carried_more}
use Rattle.script_run.proofs.threads.+carry_from.Goals as goal

-- one actor more in both lists
with_last : (c : Script) (turns : ℕ) (xs ys olds news : List Actor) (x y : Actor) → olds ≡ xs ++ x ∷ [] → news ≡ ys ++ y ∷ [] → AllCarriedOut c turns xs ys → CarriedOut c turns x y → AllCarriedOut c turns olds news
with_last c turns xs ys olds news x y old new all one = subst (λ (zs : List Actor). AllCarriedOut c turns olds zs) (sym new) (subst (λ (zs : List Actor). AllCarriedOut c turns zs (ys ++ y ∷ [])) (sym old) (carried_more c turns xs ys x y all one))

pub returns-in-Ok-clause-carried : goal.returns-in-Ok-clause-carried
returns-in-Ok-clause-carried g t c =
    let script = c.args.stage.now.script.now in
    let p = c.in-Ok.ensures.thread in
    let turns : ℕ = c.args.stage.now.turns in
    let one : CarriedOut script turns c.in-Some.actor c.join.result = subst (λ (h : Actor). CarriedOut script turns h c.join.result) p.2 (subst (λ (n : ℕ). CarriedOut script n c.in-Ok.thread.promise.2.value c.join.result) p.1 (subst (λ (z : Script). CarriedOut z c.in-Ok.thread.promise.1.value c.in-Ok.thread.promise.2.value c.join.result) p.0 c.join.ensures)) in
    with_last script turns c.pop.new.self.items c.carry_from-actors.result.items c.args.actors.items c.push_reserved.new.self.items c.in-Some.actor c.join.result c.in-Some.ensures.items c.push_reserved.ensures.items c.carry_from-actors.ensures.carried one

pub returns-in-Err-clause-carried : goal.returns-in-Err-clause-carried
returns-in-Err-clause-carried g t c =
    with_last c.args.stage.now.script.now c.args.stage.now.turns c.pop.new.self.items c.carry_from-actors-in-Err.result.items c.args.actors.items c.push_reserved-in-Err.new.self.items c.in-Some.actor c.in-Err.actor c.in-Some.ensures.items c.push_reserved-in-Err.ensures.items c.carry_from-actors-in-Err.ensures.carried c.in-Err.ensures.refused
