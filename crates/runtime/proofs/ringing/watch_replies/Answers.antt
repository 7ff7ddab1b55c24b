use Rattle.runtime.proofs.Common.{List, LooksAfter, Req, [], append-nil, arith, cares_of, inl, refl, subst, sym, ◌∙◌}
use Rattle.runtime.proofs.TurnLaws.{may_ring, rang_still, rang_then}
use Rattle.runtime.proofs.HeldBack.{next_pending, none_pending, passed_all, passed_some}
use Rattle.runtime.proofs.ringing.watch_replies.Goals as goal

pub loop-n-init : goal.loop-n-init
loop-n-init c = record {
  on = record { rang = rang_still _ _ _ c.requires.may.own.0; cared = c.requires.may.cared; same = (refl, refl) };
  may = c.requires.may;
  fewer = λ r d is. is;
  passed = record { todo = c.args.lists.now.watchers.items; done = []; items_are = sym (append-nil c.args.lists.now.watchers.items); left = let e = c.len-n-end.ensures in omega (arith, e); true_of = none_pending c.args.state.now.poller c.args.state.now.poller };
}

pub watch-requires-clause-may : goal.watch-requires-clause-may
watch-requires-clause-may c = let i = c.loop-n.invariant.may in record { own = i.own; room = i.room; cared = subst (λ (ws : List Req). LooksAfter (record (cares_of c.loop-n.lists) { watched = ws }) c.loop-n.state.poller.view.seen) c.in-Some.ensures.taken i.cared }

pub unreachable-requires : goal.unreachable-requires
unreachable-requires c = passed_some _ c.loop-n.lists.watchers.items c.loop-n._n c.len-n-end.result c.loop-n.invariant.passed c.loop-n-test.true c.in_default.ensures.taken.1

pub loop-n-preserved : goal.loop-n-preserved
loop-n-preserved c =
    let i = c.loop-n.invariant in let e = c.watch.ensures in record {
      on = record { rang = rang_then _ _ _ _ _ c.loop-n.outbox _ i.on.rang e.on.rang; cared = e.on.cared; same = (e.on.same.0 ∙ i.on.same.0, e.on.same.1 ∙ i.on.same.1) };
      may = may_ring _ _ _ _ _ _ _ i.may e.on.rang e.on.cared;
      fewer = λ r d is. i.fewer r d (e.fewer r d is);
      passed = next_pending c.args.state.now.poller c.loop-n.state.poller c.watch.new.state.poller c.loop-n.lists.watchers.items c.take.new.self c.watch.new.lists.watchers c.in-Some.req c.loop-n._n c.len-n-end.result i.passed c.in-Some.ensures.taken c.loop-n-test.true (i.on.rang.goes.later, i.on.rang.goes.seen_is) (e.on.rang.goes.later, e.on.rang.goes.seen_is) e.watched;
    }

pub returns-after-loop-n-clause-on : goal.returns-after-loop-n-clause-on
returns-after-loop-n-clause-on c = c.loop-n.invariant.on

pub returns-after-loop-n-clause-fewer : goal.returns-after-loop-n-clause-fewer
returns-after-loop-n-clause-fewer c = c.loop-n.invariant.fewer

pub returns-after-loop-n-clause-counted : goal.returns-after-loop-n-clause-counted
returns-after-loop-n-clause-counted c = let done = c.loop-n-test.false in let le = c.loop-n.auto._n-end in inl (passed_all _ c.loop-n.lists.watchers.items c.loop-n._n c.len-n-end.result (omega (arith, done, le)) c.loop-n.invariant.passed)

pub returns-then-state-eq0-clause-on : goal.returns-then-state-eq0-clause-on
returns-then-state-eq0-clause-on c = c.loop-n.invariant.on

pub returns-then-state-eq0-clause-fewer : goal.returns-then-state-eq0-clause-fewer
returns-then-state-eq0-clause-fewer c = c.loop-n.invariant.fewer
