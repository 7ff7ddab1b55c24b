use Rattle.runtime.specs.declared.promised.WorkThread.{WorkThread}
use Rattle.runtime.proofs.Common.{All, All-pop, All-push, IsWorkSide, List, Shared, Some, WorkSide, [], ap, arc_value, arith, rules, shares_in, shares_of, subst, sum_by_push, sym, ◌++◌, ◌∷◌, ◌≡◌}
use Rattle.runtime.proofs.promised.join_workers.Goals as goal

pub loop-thread-preserved : goal.loop-thread-preserved
loop-thread-preserved g c =
    let s = c.args.shared.now in
    let i = c.loop-thread.invariant in
    let left : c.loop-thread.workers.items ≡ c.pop.new.self.items ++ c.in-Some.thread ∷ [] = search rules in
    let threads = All-pop (λ (t : WorkThread). arc_value t.handle.promise.0.value ≡ s) c.loop-thread.workers.items c.pop.new.self.items (Some c.in-Some.thread) c.in-Some.ensures.items i.threads in
    let back = c.join-worker.ensures in
    let shares = ap (λ (z : List WorkThread). shares_of z) left in
    let sum = ap (λ (z : List WorkSide). shares_in z) c.push_reserved.ensures.items in
    record {
      threads = threads.0;
      ended = subst (λ (z : List WorkSide). All (λ w. IsWorkSide s w) z) (sym c.push_reserved.ensures.items) (All-push (λ (w : WorkSide). IsWorkSide s w) _ _ i.ended (subst (λ (t : Shared). IsWorkSide t c.join-worker.result) threads.1 back.0));
      shares = omega (arith, i.shares, back.1, sum_by_push (λ (t : WorkThread). t.handle.promise.1.value.share) c.pop.new.self.items c.in-Some.thread, sum_by_push (λ (w : WorkSide). w.desk.ready.share) c.loop-thread.ended.items c.join-worker.result);
      count = search rules;
      room = search rules;
    }
