use Rattle.runtime.proofs.Common.{LooksAfter, Option, Places, Req, ap, cares_of, deadline_at, inl, inr, refl, subst, sym, ℕ, ◌∙◌}
use Rattle.runtime.proofs.PassLaws.{after_on}
use Rattle.runtime.proofs.DeskLaws.{drops_timer, fewer_dropped, unwatches, watches_on}
use Rattle.runtime.proofs.DueTimers.{polled_over}
use Rattle.runtime.proofs.ringing.watch.Goals as goal

pub returns-in-Early-clause-on : goal.returns-in-Early-clause-on
returns-in-Early-clause-on c = record { rang = c.poll.ensures.rang; same = (refl, refl); cared = unwatches (cares_of c.args.lists.now) c.args.req c.poll.new.state.poller.view.seen (inr c.in-Early.ensures.stands.1) (after_on _ _ _ _ c.poll.ensures.rang.goes _ c.requires.may.cared) }

pub returns-in-Fewer-clause-on : goal.returns-in-Fewer-clause-on
returns-in-Fewer-clause-on c =
    let later = after_on _ _ _ _ c.poll.ensures.rang.goes _ c.requires.may.cared in let j = c.poll.new.state.poller.view.seen in
    record { rang = c.poll.ensures.rang; same = (refl, refl); cared = subst (λ (s : Places). LooksAfter (record (cares_of c.args.lists.now) { watched = s.items }) j) (sym c.put.ensures) (watches_on (cares_of c.args.lists.now) c.args.req j later) }

pub returns-in_default : goal.returns-in_default
returns-in_default c =
    let j = c.poll.new.state.poller.view.seen in let n = c.in_default in
    let over = polled_over c.args.state.now.poller c.poll.new.state c.args.req c.poll.result n.not-Early n.not-Fewer n.not-TargetOpen n.not-Due c.poll.ensures.stands in
    let left = drops_timer (cares_of c.args.lists.now) c.args.req j over (unwatches (cares_of c.args.lists.now) c.args.req j (inl over) (after_on _ _ _ _ c.poll.ensures.rang.goes _ c.requires.may.cared)) in
    record {
      on = record { rang = c.poll.ensures.rang; same = (refl, refl); cared = subst (λ (f : Req → Option ℕ). LooksAfter (record (cares_of c.args.lists.now) { deadline = f }) j) (sym c.drop_timer.ensures.dropped) left };
      watched = inl refl;
      fewer = λ r d is. fewer_dropped (deadline_at c.args.lists.now.timers) c.args.req r d (ap (λ (f : Req → Option ℕ). f r) (sym c.drop_timer.ensures.dropped) ∙ is);
    }
