use Rattle.runtime.proofs.Common.{HasRung, LooksAfter, cares_of, deadline_at, subst, sym}
use Rattle.runtime.proofs.ringing.ring_due.Goals as goal

pub returns-clause-on : goal.returns-clause-on
returns-clause-on c = let on = c.end_due.ensures.on in record { rang = on.rang; same = on.same; cared = subst (λ z. LooksAfter (record (cares_of c.end_due.new.lists) { deadline = deadline_at z }) c.end_due.new.state.poller.view.seen) (sym c.catch_up.ensures) on.cared }

pub returns-clause-rung : goal.returns-clause-rung
returns-clause-rung c = subst (λ z. HasRung c.args.state.now.poller c.end_due.new.state (record (cares_of c.end_due.new.lists) { deadline = deadline_at z })) (sym c.catch_up.ensures) c.end_due.ensures.rung
