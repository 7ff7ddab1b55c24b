use Rattle.runtime.proofs.Common.{AreNumbered, List, [], ap, arith, length, length-append, rules, subst, sym, ℕ, ◌∙◌, ◌∷◌}
use Rattle.runtime.proofs.RuntimeParts.{numbered_push}
use Rattle.runtime.proofs.parts.posts_of.Goals as goal

pub loop-ring-preserved : goal.loop-ring-preserved
loop-ring-preserved c =
    let i = c.loop-ring.invariant in
    let more = ap length c.push_reserved.ensures.items ∙ length-append c.loop-ring.listeners.items (c.in-Ok-pair_of.listener ∷ []) in
    record {
      owner = search rules;
      count = search rules;
      numbered = subst (λ (l : List ℕ). AreNumbered l) (sym c.push_reserved-in-loop-ring.ensures.items) (numbered_push c.loop-ring.posts.items c.new.result i.numbered (search rules));
      room = search rules;
      pairs = omega (arith, i.pairs, more);
      space = search rules;
    }
