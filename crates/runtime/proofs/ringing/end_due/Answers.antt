use Rattle.runtime.proofs.Common.{IsLinkedDue, LooksAfter, Option, Req, arith, cares_of, inr, subst, sym, ℕ, ◌∙◌}
use Rattle.runtime.proofs.ClockLaws.{clock_kept}
use Rattle.runtime.proofs.TurnLaws.{may_ring, rang_moved, rang_then}
use Rattle.runtime.proofs.PassLaws.{after_on, begins_then, once_now}
use Rattle.runtime.proofs.DeskLaws.{drops_timer}
use Rattle.runtime.proofs.DueTimers.{due_over}
use Rattle.runtime.proofs.ringing.end_due.Goals as goal

pub loop-req-preserved : goal.loop-req-preserved
loop-req-preserved c =
    let i = c.loop-req.invariant in let e = c.poll.ensures in
    let later = after_on _ _ _ _ e.rang.goes (cares_of c.loop-req.lists) i.may.cared in
    let f = c.in-Some.ensures in let clock = i.clock in let le = f.2 in
    let over = due_over c.args.board.now c.loop-req.state.poller c.poll.new.state e.rang.events e.rang.goes i.may.own.1 e.rang.still c.in-Some.req (f.0, i.may.cared.timers c.in-Some.req f.0 f.1, omega (arith, clock, le)) c.poll.result c.in_default-poll.not-Due e.stands in
    let left = subst (λ (f : Req → Option ℕ). LooksAfter (record (cares_of c.loop-req.lists) { deadline = f }) c.poll.new.state.poller.view.seen) (sym c.drop_timer.ensures.dropped) (drops_timer (cares_of c.loop-req.lists) c.in-Some.req _ over later) in
    record {
      on = record { rang = rang_moved _ _ _ _ _ (rang_then _ _ _ _ _ c.loop-req.outbox _ i.on.rang e.rang); cared = left; same = i.on.same };
      may = let m = may_ring _ _ _ _ _ _ _ i.may e.rang left in record { own = m.own; room = m.room; cared = m.cared };
      clock = i.clock ∙ sym (clock_kept _ _ _ _ e.rang.goes i.may.own.1 e.rang.still);
    }

pub returns-in-Due-clause-on : goal.returns-in-Due-clause-on
returns-in-Due-clause-on c = let i = c.loop-req.invariant in let e = c.poll.ensures.rang in record { rang = rang_then _ _ _ _ _ c.loop-req.outbox _ i.on.rang e; cared = after_on _ _ _ _ e.goes (cares_of c.loop-req.lists) i.may.cared; same = i.on.same }

pub returns-in-Due-clause-rung : goal.returns-in-Due-clause-rung
returns-in-Due-clause-rung c =
    let i = c.loop-req.invariant.on.rang.goes in let g = c.poll.ensures.rang.goes in let full = c.in-Due.ensures.stands in let one = full.0 in
    inr (inr (omega (arith, one), (c.in-Some.req, once_now c.args.state.now.poller c.poll.new.state.poller (λ h. IsLinkedDue h c.in-Some.req) (begins_then _ c.loop-req.state.poller.view.seen _ (i.later, i.seen_is) (g.later, g.seen_is)) full.1)))
