use Rattle.std.specs.Option.{is_some}
use Rattle.ready.specs.Spans.{numbers_in}
use Rattle.runtime.proofs.Common.{HasNext, List, None, Option, Owed, Req, Some, [], ap, sym, true, true≢false, ◌++◌, ◌∙◌, ◌∷◌, ◌≡◌}
use Rattle.runtime.proofs.backlog.Backlog.is_full.Goals as goal

nil_right : (xs ys : List Req) → xs ++ ys ≡ [] → ys ≡ []
nil_right [] ys e = e
nil_right (x ∷ xs) ys e = absurd (let z : x ∷ (xs ++ ys) ≡ [] = e in cc)

some_next : (o : Option (List Req)) → HasNext o → is_some o ≡ true → numbers_in o ≡ [] → ⊥
some_next None h is e = true≢false (sym is)
some_next (Some s) h is e = h e

pub returns-clause-some : goal.returns-clause-some
returns-clause-some c = λ is none. some_next c.self.inside.next c.self.invariant (sym c.is_some.ensures ∙ is) (nil_right (numbers_in c.self.inside.span) (numbers_in c.self.inside.next) (ap (λ (z : Owed). z.numbers) c.self.view_is ∙ none))
