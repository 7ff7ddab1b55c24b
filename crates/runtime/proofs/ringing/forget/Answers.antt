use Rattle.runtime.proofs.Common.{LooksAfter, Option, Req, cares_of, subst, sym, ℕ}
use Rattle.runtime.proofs.TurnLaws.{rang_still}
use Rattle.runtime.proofs.PassLaws.{after_on}
use Rattle.runtime.proofs.DeskLaws.{drops_timer}
use Rattle.runtime.proofs.TurnParts.{no_answers}
use Rattle.runtime.proofs.ringing.forget.Goals as goal

pub returns-then-not-has_timer-clause-went_on : goal.returns-then-not-has_timer-clause-went_on
returns-then-not-has_timer-clause-went_on c = λ o. rang_still _ _ o c.requires.own.0

pub returns-then-is_armed-clause-cared : goal.returns-then-is_armed-clause-cared
returns-then-is_armed-clause-cared c = after_on _ _ _ _ (c.is_armed.ensures.went_on no_answers).goes (cares_of c.args.lists.now) c.requires.cared

pub returns-clause-cared : goal.returns-clause-cared
returns-clause-cared c =
    let later = after_on _ _ _ _ (c.is_armed.ensures.went_on no_answers).goes (cares_of c.args.lists.now) c.requires.cared in
    subst (λ (f : Req → Option ℕ). LooksAfter (record (cares_of c.args.lists.now) { deadline = f }) c.is_armed.new.state.poller.view.seen) (sym c.drop_timer.ensures.dropped) (drops_timer (cares_of c.args.lists.now) c.args.req _ (c.is_armed.ensures.unarmed c.if-is_armed.false) later)
