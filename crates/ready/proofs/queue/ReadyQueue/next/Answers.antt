use Rattle.ready.proofs.Common.{HasDrawn, List, Moves, Req, [], ap, before, moves_of, numbers_in, numbers_of, subst, sym, taking, view, ◌++◌, ◌∙◌, ◌∷◌, ◌≡◌}
use Rattle.ready.proofs.SpanLists.{drawn_first, before_is, same_moves}
use Rattle.ready.proofs.queue.ReadyQueue.next.Given.{Over}
use Rattle.ready.proofs.queue.ReadyQueue.next.Goals as goal

-- what was taken out ends with the rest of the span, after what the pass took before and the request that goes out
longer : (g : Over) (c : goal.After-rest-1 g)
    → numbers_of (view c.draw.new.seat).taken ≡ (before (numbers_of (view c.pass.inside.seat).taken) (numbers_in c.pass.inside.rest) ++ c.split-rest.result.0 ∷ []) ++ numbers_in c.split-rest.result.1
longer g c =
    let drawn = subst (HasDrawn (view c.pass.inside.seat).taken c.pass.inside.rest (view c.draw.new.seat).taken) c.in-Some.is c.draw.ensures.drawn in
    drawn_first _ c.pass.inside.rest _ _ _ c.split-rest.result.1 c.pass.invariant.ends drawn c.split-rest.ensures.split

pub invariant_of-pass-2 : goal.invariant_of-pass-2
invariant_of-pass-2 g c =
    let p = c.pass.invariant in
    let d = c.draw.ensures in
    let others = numbers_in c.split-rest.result.1 in
    let all = longer g c in
    record {
      share_is = d.same.0 ∙ p.share_is;
      some = p.some;
      none_out = d.queue.2 ∙ p.none_out;
      ends = all ∙ ap (λ (z : List Req). z ++ others) (sym (before_is _ _ others all));
    }

pub returns : goal.returns
returns g c =
    let d = c.draw.ensures in
    let r = c.split-rest.result.0 in
    let taken = before_is _ _ (numbers_in c.split-rest.result.1) (longer g c) in
    subst (λ (z : Moves). moves_of c.draw.new.seat c.split-rest.result.1 ≡ taking r z) c.pass.view_is (same_moves _ _ d.queue.0 d.same.0 (ap numbers_of d.same.1) taken)
