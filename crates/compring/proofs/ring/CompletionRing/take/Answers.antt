use Rattle.std.proofs.Common.{◌≡◌, ◌++◌, ◌∷◌, sym, subst, refl, arith}
use Rattle.std.proofs.lemmas.Grind.{common_steps}
use Rattle.compring.specs.Posts.{StandsFor}
use Rattle.compring.proofs.Taking.{taken_on}
use Rattle.compring.proofs.ring.CompletionRing.take.Goals as goal

pub returns-in-Some-clause-stands : goal.returns-in-Some-clause-stands
returns-in-Some-clause-stands c = λ posts taken stands.
    let w : c.self.inside.ring.items ++ c.self.inside.overflow.items ≡ c.in_ok-req.req ∷ (c.push_back_reserved.new.self.items ++ c.pop_front-2.new.self.items) = grind (arith, common_steps) in
    taken_on posts taken _ _ c.in_ok-req.req (subst (λ z. StandsFor posts taken z) (sym c.self.view_is) stands) w refl

pub returns-in_default-clause-stands : goal.returns-in_default-clause-stands
returns-in_default-clause-stands c = λ posts taken stands.
    let w : c.self.inside.ring.items ++ c.self.inside.overflow.items ≡ c.in_ok-req.req ∷ (c.pop_front.new.self.items ++ c.pop_front-2.new.self.items) = grind (arith, common_steps) in
    taken_on posts taken _ _ c.in_ok-req.req (subst (λ z. StandsFor posts taken z) (sym c.self.view_is) stands) w refl
