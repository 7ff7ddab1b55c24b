use Rattle.runtime.proofs.Common.{[], ap, arith, length, length-append, map, ready_of, reverse, sym, worker_of, ◌++◌, ◌∙◌, ◌∷◌}
use Rattle.runtime.proofs.RuntimeParts.{goes_over}
use Rattle.runtime.proofs.started.passes_of.Goals as goal

pub loop-side-preserved : goal.loop-side-preserved
loop-side-preserved c =
    let i = c.loop-side.invariant in
    let ys = c.pop.new.self.items in
    let worker = c.push_reserved.ensures.items ∙ ap (λ p. c.loop-side.workers.items ++ p ∷ []) c.parts-worker.ensures.0 in
    let ready = c.push_reserved-in-Some.ensures.items ∙ ap (λ p. c.loop-side.passes.items ++ p ∷ []) c.parts-worker.ensures.1 in
    let one = ap length c.in-Some.ensures.items ∙ length-append ys (c.in-Some.side ∷ []) in
    let more = ap length worker ∙ length-append c.loop-side.workers.items (worker_of c.in-Some.side ∷ []) in
    let more_passes = ap length ready ∙ length-append c.loop-side.passes.items (ready_of c.in-Some.side ∷ []) in
    record {
      workers = ap (λ l. map worker_of ys ++ reverse l) worker ∙ (goes_over worker_of ys c.in-Some.side c.loop-side.workers.items ∙ (ap (λ l. map worker_of l ++ reverse c.loop-side.workers.items) (sym c.in-Some.ensures.items) ∙ i.workers));
      passes = ap (λ l. map ready_of ys ++ reverse l) ready ∙ (goes_over ready_of ys c.in-Some.side c.loop-side.passes.items ∙ (ap (λ l. map ready_of l ++ reverse c.loop-side.passes.items) (sym c.in-Some.ensures.items) ∙ i.passes));
      count = omega (arith, one, more, i.count);
      pairs = omega (arith, one, more_passes, i.pairs);
      room = rw c.push_reserved.ensures.capacity i.room;
      places = rw c.push_reserved-in-Some.ensures.capacity i.places;
    }
