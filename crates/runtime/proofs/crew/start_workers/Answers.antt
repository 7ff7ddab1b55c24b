use Rattle.ready.specs.Ready.{IsQueuePass}
use Rattle.runtime.specs.declared.promised.WorkThread.{WorkThread}
use Rattle.runtime.proofs.Common.{All, All-pop, All-push, IsOf, List, Moves, Pass, Some, [], ap, arc_value, arith, length, length-append, rules, shares_of, subst, sum_by, sum_by_push, sym, ◌++◌, ◌∷◌, ◌≡◌}
use Rattle.runtime.proofs.crew.start_workers.Goals as goal

pub start_beside-requires-clause-worker : goal.start_beside-requires-clause-worker
start_beside-requires-clause-worker g c κs within =
    let s = arc_value c.args.stage.now.shared in
    (All-pop (λ (p : Pass). IsOf s.board p) c.loop-worker.workers.items c.pop.new.self.items (Some c.in-Some.worker) c.in-Some.ensures.items c.loop-worker.invariant.workers).1

pub start_beside-requires-clause-ready : goal.start_beside-requires-clause-ready
start_beside-requires-clause-ready g c κs within =
    let s = arc_value c.args.stage.now.shared in
    (All-pop (λ (p : Moves). IsQueuePass s.queue p) c.loop-worker.passes.items c.pop-in-Some.new.self.items (Some c.in-Some-pop.ready) c.in-Some-pop.ensures.items c.loop-worker.invariant.passes).1

pub loop-worker-preserved : goal.loop-worker-preserved
loop-worker-preserved g c =
    let s = arc_value c.args.stage.now.shared in
    let i = c.loop-worker.invariant in
    let workers_left : c.loop-worker.workers.items ≡ c.pop.new.self.items ++ c.in-Some.worker ∷ [] = search rules in
    let passes_left : c.loop-worker.passes.items ≡ c.pop-in-Some.new.self.items ++ c.in-Some-pop.ready ∷ [] = search rules in
    let fewer = ap (λ (z : List Pass). length z) workers_left in
    let one = length-append c.pop.new.self.items (c.in-Some.worker ∷ []) in
    let fewer_passes = ap (λ (z : List Moves). length z) passes_left in
    let one_pass = length-append c.pop-in-Some.new.self.items (c.in-Some-pop.ready ∷ []) in
    let more = ap (λ (z : List WorkThread). length z) c.push_reserved.ensures.items in
    let one_thread = length-append c.loop-worker.threads.items (c.in-Ok.thread ∷ []) in
    let shares = ap (λ (z : List Moves). sum_by (λ (p : Moves). p.share) z) passes_left in
    let sum = ap (λ (z : List WorkThread). shares_of z) c.push_reserved.ensures.items in
    record {
      workers = (All-pop (λ (p : Pass). IsOf s.board p) c.loop-worker.workers.items c.pop.new.self.items (Some c.in-Some.worker) c.in-Some.ensures.items i.workers).0;
      passes = (All-pop (λ (p : Moves). IsQueuePass s.queue p) c.loop-worker.passes.items c.pop-in-Some.new.self.items (Some c.in-Some-pop.ready) c.in-Some-pop.ensures.items i.passes).0;
      pairs = omega (arith, i.pairs, fewer, one, fewer_passes, one_pass);
      listening = search rules;
      calling = search rules;
      threads = subst (λ (z : List WorkThread). All (λ t. arc_value t.handle.promise.0.value ≡ s) z) (sym c.push_reserved.ensures.items) (All-push (λ (t : WorkThread). arc_value t.handle.promise.0.value ≡ s) _ _ i.threads c.in-Ok.ensures.thread.0);
      shares = omega (arith, i.shares, shares, sum, c.in-Ok.ensures.thread.1, sum_by_push (λ (t : WorkThread). t.handle.promise.1.value.share) c.loop-worker.threads.items c.in-Ok.thread, sum_by_push (λ (p : Moves). p.share) c.pop-in-Some.new.self.items c.in-Some-pop.ready);
      count = omega (arith, i.count, fewer, one, more, one_thread);
      room = search rules;
    }
