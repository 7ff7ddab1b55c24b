use Rattle.runtime.proofs.Common.{All-pop, IsNotifierOf, Notifying, Some, [], ap, arc_value, arith, length, length-append, rules, sym, ◌∙◌, ◌∷◌}
use Rattle.runtime.proofs.parts.callers_of.Goals as goal

pub new-requires : goal.new-requires
new-requires c = (All-pop (λ (n : Notifying). IsNotifierOf (arc_value c.args.count.now) n) c.loop-notifier.notifiers.items c.pop.new.self.items (Some c.in-Some.notifier) c.in-Some.ensures.items c.loop-notifier.invariant.notifiers).1 ∙ sym c.in-Ok.ensures

pub loop-notifier-preserved : goal.loop-notifier-preserved
loop-notifier-preserved c =
    let i = c.loop-notifier.invariant in
    let one = ap length c.in-Some.ensures.items ∙ length-append c.pop.new.self.items (c.in-Some.notifier ∷ []) in
    let more = ap length c.push_reserved.ensures.items ∙ length-append c.loop-notifier.callers.items (c.new.result ∷ []) in
    record {
      notifiers = (All-pop (λ (n : Notifying). IsNotifierOf (arc_value c.args.count.now) n) c.loop-notifier.notifiers.items c.pop.new.self.items (Some c.in-Some.notifier) c.in-Some.ensures.items i.notifiers).0;
      count = omega (arith, i.count, one, more);
      room = search rules;
    }
