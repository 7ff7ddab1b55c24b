use Rattle.runtime.proofs.Common.{List, LooksAfter, Req, [], arith, cares_of, inl, refl, subst, sym, ◌∙◌}
use Rattle.runtime.proofs.TurnLaws.{did_still, did_then, may_release}
use Rattle.runtime.proofs.HeldBack.{next_held, none_held, passed_all, passed_some, same_places}
use Rattle.runtime.proofs.releasing.release_waiting.Goals as goal

pub loop-n-init : goal.loop-n-init
loop-n-init g c = rw c.limit_for.ensures (record {
  did = did_still _ _ _ _ c.requires.may.own.0.0;
  may = c.requires.may;
  rings = refl;
  places = refl;
  passed = record { todo = c.args.lists.now.waiting.items; done = []; items_are = sym (Rattle.std.proofs.lemmas.List.append-nil c.args.lists.now.waiting.items); left = let e = c.len-n-end.ensures in omega (arith, e); true_of = inl (none_held c.args.state.now.poller c.args.state.now.poller) };
})

pub release_next-outcome-requires-clause-may : goal.release_next-outcome-requires-clause-may
release_next-outcome-requires-clause-may g c = let i = c.loop-n.invariant.may in record { own = i.own; room = i.room; cared = subst (λ (ws : List Req). LooksAfter (record (cares_of c.loop-n.lists) { waiting = ws }) c.loop-n.state.poller.view.seen) c.in-Some.ensures.taken i.cared }

pub loop-n-preserved : goal.loop-n-preserved
loop-n-preserved g c =
    let i = c.loop-n.invariant in let e = c.release_next-outcome.ensures in record {
      did = did_then _ _ _ _ _ _ c.loop-n.outbox _ i.did e.did;
      may = may_release _ _ _ _ _ _ _ _ i.may e.did e.cared;
      rings = e.rings ∙ i.rings;
      places = same_places c.in-Some.req _ _ e.waits ∙ (c.take.ensures.places ∙ i.places);
      passed = next_held c.args.state.now.poller c.loop-n.state.poller c.release_next-outcome.new.state.poller c.loop-n.state c.release_next-outcome.new.state c.loop-n.outcome c.release_next-outcome.result c.loop-n.lists.waiting.items c.take.new.self c.release_next-outcome.new.lists.waiting c.in-Some.req c.loop-n._n c.len-n-end.result i.passed c.in-Some.ensures.taken c.loop-n-test.true (i.did.goes.later, i.did.goes.seen_is) (e.did.goes.later, e.did.goes.seen_is) e.outcome e.stuck e.waits e.tried;
    }

pub unreachable-requires : goal.unreachable-requires
unreachable-requires g c = passed_some _ c.loop-n.lists.waiting.items c.loop-n._n c.len-n-end.result c.loop-n.invariant.passed c.loop-n-test.true c.in_default.ensures.taken.1

pub returns-clause-did : goal.returns-clause-did
returns-clause-did g c = c.loop-n.invariant.did

pub returns-clause-cared : goal.returns-clause-cared
returns-clause-cared g c = c.loop-n.invariant.may.cared

pub returns-clause-rings : goal.returns-clause-rings
returns-clause-rings g c = c.loop-n.invariant.rings

pub returns-clause-places : goal.returns-clause-places
returns-clause-places g c = c.loop-n.invariant.places

pub returns-clause-tried : goal.returns-clause-tried
returns-clause-tried g c = let done = c.loop-n-test.false in let le = c.loop-n.auto._n-end in passed_all _ c.loop-n.lists.waiting.items c.loop-n._n c.len-n-end.result (omega (arith, done, le)) c.loop-n.invariant.passed
