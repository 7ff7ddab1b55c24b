use Rattle.event_count.proofs.Common.{Hears, Line, List, Role, number_of, subst}
use Rattle.event_count.proofs.waiter.wait_for_notice.Goals as goal

pub returns-then-is_other-clause-heard : goal.returns-then-is_other-clause-heard
returns-then-is_other-clause-heard g c = let i = c.loop.invariant in
    subst (λ (r : Role). Hears (number_of r) c.args.seat.now.me.0.seen c.is_other.new.seat.me.0.seen) i.3
    (subst (λ (z : List Line). Hears (number_of c.loop.seat.me.0.role) z c.is_other.new.seat.me.0.seen) i.4 (c.is_other.ensures.heard c.if-is_other.true))
