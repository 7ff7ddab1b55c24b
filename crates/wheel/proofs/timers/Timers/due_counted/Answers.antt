use Rattle.wheel.proofs.Common.{IsFirstDue, None, Some, deadline_at, subst}
use Rattle.wheel.proofs.Fronts.{later, least_is_due, least_is_later, none_at_all, nothing_due}
use Rattle.wheel.proofs.timers.Timers.due_counted.Goals as goal

pub returns-in_err-req-clause-due : goal.returns-in_err-req-clause-due
returns-in_err-req-clause-due g c = rw c.from_residual.ensures (subst (λ z. IsFirstDue (deadline_at z) c.args.now None) c.self.view_is (nothing_due c.self.inside.slots c.self.inside.deadlines.entries c.self.invariant.0 c.args.now c.in_err-req.ensures.least))

pub returns-then-at-now-clause-due : goal.returns-then-at-now-clause-due
returns-then-at-now-clause-due g c = subst (λ z. IsFirstDue (deadline_at z) c.args.now (Some c.in_ok-req.req)) c.self.view_is (least_is_due c.self.inside.slots c.self.inside.deadlines.entries c.self.invariant.0 c.args.now (c.in_ok-req.req, c.in_ok-req.at) c.in_ok-req.ensures.least c.if-at-now.true)

pub returns-else-at-now-clause-due : goal.returns-else-at-now-clause-due
returns-else-at-now-clause-due g c = subst (λ z. IsFirstDue (deadline_at z) c.args.now None) c.self.view_is (least_is_later c.self.inside.slots c.self.inside.deadlines.entries c.self.invariant.0 c.args.now (c.in_ok-req.req, c.in_ok-req.at) c.in_ok-req.ensures.least c.if-at-now.false)

pub returns-then-is_empty-clause-due : goal.returns-then-is_empty-clause-due
returns-then-is_empty-clause-due g c = subst (λ z. IsFirstDue (deadline_at z) c.args.now None) c.self.view_is (none_at_all c.self.inside.deadlines.entries c.args.now (c.is_empty.ensures.0 c.if-is_empty.true))

pub returns-then-now-self-clause-due : goal.returns-then-now-self-clause-due
returns-then-now-self-clause-due g c = subst (λ z. IsFirstDue (deadline_at z) c.args.now None) c.self.view_is (later c.self.inside.deadlines.entries c.self.inside.soonest c.args.now c.self.invariant.1 c.if-now-self.true)
