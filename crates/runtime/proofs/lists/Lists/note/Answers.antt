use Rattle.runtime.proofs.Common.{Cares, Line, List, LooksAfter, Option, Places, Req, [], ap, arith, cares_of, subst, sym, ℕ, ◌++◌, ◌∙◌, ◌∷◌, ◌≡◌}
use Rattle.runtime.proofs.DeskLaws.{half_sets_timer, sets_timer, waits_on}
use Rattle.runtime.proofs.lists.Lists.note.Goals as goal

-- what is looked after is the same by equal lists
same_cares : (c : Cares) (ws vs xs ys : List Req) (f g : Req → Option ℕ) (j : List Line) → ws ≡ vs → xs ≡ ys → f ≡ g → LooksAfter (record c { waiting = vs; watched = ys; deadline = g }) j → LooksAfter (record c { waiting = ws; watched = xs; deadline = f }) j
same_cares c ws vs xs ys f g j a b e y = subst (λ (z : List Req × List Req × (Req → Option ℕ)). LooksAfter (record c { waiting = z.0; watched = z.1; deadline = z.2 }) j) (λ i. (sym a i, sym b i, sym e i)) y

pub returns-in_default-clause-cares : goal.returns-in_default-clause-cares
returns-in_default-clause-cares c = λ j is y. same_cares (cares_of c.args.self.now) _ _ _ _ _ _ j (ap (λ (s : Places). s.items) c.put.ensures) (λ i. c.args.self.now.watchers.items) c.in_default.ensures.err (waits_on (cares_of c.args.self.now) c.args.req j y)

pub returns-in_default-make_places-clause-cares : goal.returns-in_default-make_places-clause-cares
returns-in_default-make_places-clause-cares c = λ j is y.
    let fits = c.ranges.deadline.fits in
    same_cares (cares_of c.args.self.now) _ _ _ _ _ _ j (ap (λ (s : Places). s.items) c.put-in_default-make_places.ensures) c.make_places.ensures.same c.in-Ok.ensures.ok (half_sets_timer (cares_of c.args.self.now) c.args.req c.args.deadline j (omega (arith, fits)) is y)

pub returns-clause-cares : goal.returns-clause-cares
returns-clause-cares c = λ j is y.
    let fits = c.ranges.deadline.fits in
    same_cares (cares_of c.args.self.now) _ _ _ _ _ _ j (λ i. c.args.self.now.waiting.items) (ap (λ (s : Places). s.items) c.put-2.ensures ∙ ap (λ (l : List Req). l ++ c.args.req ∷ []) c.make_places.ensures.same) c.in-Ok.ensures.ok (sets_timer (cares_of c.args.self.now) c.args.req c.args.deadline j (omega (arith, fits)) is y)
