use Rattle.runtime.proofs.Common.{Places, ap, inl, refl, sym, ◌∙◌}
use Rattle.runtime.proofs.TurnLaws.{did_ring, did_still, did_then, may_release}
use Rattle.runtime.proofs.HeldBack.{free_unstuck, same_places}
use Rattle.runtime.proofs.TurnParts.{free_goes_on, no_answers, waited_more, went_free}
use Rattle.runtime.proofs.releasing.take_ring.Goals as goal

pub loop-k-init : goal.loop-k-init
loop-k-init g c = rw c.limit_for.ensures (record {
  did = did_still _ _ _ _ c.requires.may.own.0.0;
  may = c.requires.may;
  rings = refl;
  there = c.requires.ring;
  places = refl;
  waited = λ r is. inl is;
  taken = sym c.taken-taken.ensures;
  others = λ i n. refl;
  stuck = λ s. s;
  stopped = λ s. s;
})

pub release-requires-clause-may : goal.release-requires-clause-may
release-requires-clause-may g c = may_release _ c.args.route.queue.now _ _ c.loop-k.outbox c.loop-k.outbox _ _ c.loop-k.invariant.may (did_ring _ _ _ _ _ _ (c.take_up-req.ensures.went_on c.loop-k.outbox)) c.take_up-req.ensures.cared

pub release-requires-clause-free : goal.release-requires-clause-free
release-requires-clause-free g c = went_free _ _ _ c.take_up-req.ensures.went_on (c.is_free.ensures.kept c.if-not-is_free.false, c.is_free.ensures.room c.if-not-is_free.false)

pub returns-in_err-release-clause-did : goal.returns-in_err-release-clause-did
returns-in_err-release-clause-did g c = did_then _ _ _ _ _ _ c.loop-k.outbox _ (did_then _ _ _ _ _ _ c.loop-k.outbox _ c.loop-k.invariant.did (did_ring _ _ _ _ _ _ (c.take_up-req.ensures.went_on c.loop-k.outbox))) c.release.ensures.did

pub loop-k-preserved : goal.loop-k-preserved
loop-k-preserved g c =
    let i = c.loop-k.invariant in let t = c.take_up-req.ensures in let e = c.release.ensures in
    let took = did_ring _ c.args.route.queue.now _ _ _ _ (t.went_on c.loop-k.outbox) in
    let all = did_then _ _ _ _ _ _ c.loop-k.outbox _ (did_then _ _ _ _ _ _ c.loop-k.outbox _ i.did took) e.did in
    let kept = c.is_free.ensures.kept c.if-not-is_free.false in let some = c.is_free.ensures.room c.if-not-is_free.false in
    record {
      did = all;
      may = may_release _ _ _ _ _ _ _ _ c.requires.may all e.cared;
      rings = ap (λ z. Rattle.std.proofs.Common.length z.items) e.rings ∙ (t.rings ∙ i.rings);
      there = i.there;
      places = same_places c.take_up-req.result _ _ e.waits ∙ (ap (λ (s : Places). s.places) t.waiting ∙ i.places);
      waited = waited_more c.args.state.now.poller c.loop-k.state.poller c.take_up-req.new.state.poller c.release.new.state.poller c.args.lists.now.waiting.items c.loop-k.lists.waiting.items c.take_up-req.new.lists.waiting c.release.new.lists.waiting c.take_up-req.result (i.did.goes.later, i.did.goes.seen_is) ((t.went_on no_answers).goes.later, (t.went_on no_answers).goes.seen_is) (e.did.goes.later, e.did.goes.seen_is) i.waited (ap (λ (s : Places). s.items) t.waiting) c.in_ok-release.ensures.tried;
      taken = ap (λ z. Rattle.runtime.specs.Desks.taken_in z.items c.args.ring) e.rings ∙ t.taken;
      others = λ k n. ap (λ z. Rattle.runtime.specs.Desks.taken_in z.items k) e.rings ∙ (t.others k n ∙ i.others k n);
      stuck = λ s. absurd (free_unstuck c.loop-k.state kept some (i.stuck s));
      stopped = λ s. absurd (free_goes_on c.loop-k.state c.loop-k.lists.waiting kept some (c.is_full.ensures.open c.if-is_full.false) (i.stopped s));
    }
