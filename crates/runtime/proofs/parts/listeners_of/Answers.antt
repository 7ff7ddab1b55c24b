use Rattle.event_count.specs.Passes.{Waiting}
use Rattle.runtime.proofs.Common.{All-pop, IsWaiterOf, Some, [], ap, arc_value, arith, false, length, length-append, rules, sym, ◌∙◌, ◌∷◌, ◌≡◌}
use Rattle.runtime.proofs.parts.listeners_of.Goals as goal

pub new-requires-clause-own : goal.new-requires-clause-own
new-requires-clause-own c = (All-pop (λ (w : Waiting). IsWaiterOf (arc_value c.args.count.now) w × (w.entered ≡ false)) c.loop-waiter.waiters.items c.pop.new.self.items (Some c.in-Some.waiter) c.in-Some.ensures.items c.loop-waiter.invariant.waiters).1.0 ∙ sym c.in-Ok.ensures

pub new-requires-clause-outside : goal.new-requires-clause-outside
new-requires-clause-outside c = (All-pop (λ (w : Waiting). IsWaiterOf (arc_value c.args.count.now) w × (w.entered ≡ false)) c.loop-waiter.waiters.items c.pop.new.self.items (Some c.in-Some.waiter) c.in-Some.ensures.items c.loop-waiter.invariant.waiters).1.1

pub loop-waiter-preserved : goal.loop-waiter-preserved
loop-waiter-preserved c =
    let i = c.loop-waiter.invariant in
    let one = ap length c.in-Some.ensures.items ∙ length-append c.pop.new.self.items (c.in-Some.waiter ∷ []) in
    let more = ap length c.push_reserved.ensures.items ∙ length-append c.loop-waiter.listeners.items (c.new.result ∷ []) in
    record {
      waiters = (All-pop (λ (w : Waiting). IsWaiterOf (arc_value c.args.count.now) w × (w.entered ≡ false)) c.loop-waiter.waiters.items c.pop.new.self.items (Some c.in-Some.waiter) c.in-Some.ensures.items i.waiters).0;
      count = omega (arith, i.count, one, more);
      room = search rules;
    }
