use Rattle.runtime.proofs.Common.{LooksAfter, Option, Req, ap, cares_of, deadline_at, subst, sym, ℕ, ◌∙◌}
use Rattle.runtime.proofs.TurnLaws.{at_on, rang_moved, rang_then}
use Rattle.runtime.proofs.PassLaws.{after_on}
use Rattle.runtime.proofs.DeskLaws.{drops_timer, fewer_dropped}
use Rattle.runtime.proofs.TurnParts.{no_answers}
use Rattle.runtime.proofs.ringing.has_timers.Goals as goal

pub returns-then-is_armed-clause-went_on : goal.returns-then-is_armed-clause-went_on
returns-then-is_armed-clause-went_on c = λ o. rang_then _ _ _ _ _ o _ (c.loop-req.invariant.went_on o) (c.is_armed.ensures.went_on o)

pub returns-then-is_armed-clause-cared : goal.returns-then-is_armed-clause-cared
returns-then-is_armed-clause-cared c = after_on _ _ _ _ (c.is_armed.ensures.went_on no_answers).goes (cares_of c.loop-req.lists) c.loop-req.invariant.cared

pub loop-req-preserved : goal.loop-req-preserved
loop-req-preserved c =
    let i = c.loop-req.invariant in let e = c.is_armed.ensures in
    let later = after_on _ _ _ _ (e.went_on no_answers).goes (cares_of c.loop-req.lists) i.cared in
    record {
      went_on = λ o. rang_moved _ _ _ o _ (rang_then _ _ _ _ _ o _ (i.went_on o) (e.went_on o));
      at = at_on _ _ _ _ _ i.at (e.went_on no_answers);
      cared = subst (λ (f : Req → Option ℕ). LooksAfter (record (cares_of c.loop-req.lists) { deadline = f }) c.is_armed.new.state.poller.view.seen) (sym c.drop_timer.ensures.dropped) (drops_timer (cares_of c.loop-req.lists) c.in-Some.req _ (e.unarmed c.if-is_armed.false) later);
      same = i.same;
      fewer = λ r d is. i.fewer r d (fewer_dropped (deadline_at c.loop-req.lists.timers) c.in-Some.req r d (ap (λ (f : Req → Option ℕ). f r) (sym c.drop_timer.ensures.dropped) ∙ is));
    }
