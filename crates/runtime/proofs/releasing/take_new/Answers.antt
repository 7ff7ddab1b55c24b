use Rattle.runtime.proofs.Common.{arith, inl, inr, refl, ⊎_elim, ◌∙◌}
use Rattle.runtime.proofs.TurnLaws.{did_still, did_then, may_release}
use Rattle.runtime.proofs.HeldBack.{have_waited_then}
use Rattle.runtime.proofs.TurnParts.{taken_next}
use Rattle.runtime.proofs.releasing.take_new.Goals as goal

pub loop-ring-init : goal.loop-ring-init
loop-ring-init g c = record {
  did = did_still _ _ _ _ c.requires.may.own.0.0;
  may = c.requires.may;
  rings = refl;
  places = refl;
  waited = λ r is. inl is;
  taken = inl (λ i lt. absurd (omega (arith, lt)));
  stuck = λ s. s;
}

pub returns-in_err-take_ring-clause-did : goal.returns-in_err-take_ring-clause-did
returns-in_err-take_ring-clause-did g c = did_then _ _ _ _ _ _ c.loop-ring.outbox _ c.loop-ring.invariant.did c.take_ring.ensures.did

pub loop-ring-preserved : goal.loop-ring-preserved
loop-ring-preserved g c =
    let i = c.loop-ring.invariant in let e = c.take_ring.ensures in
    let all = did_then _ _ _ _ _ _ c.loop-ring.outbox _ i.did e.did in
    record {
      did = all;
      may = may_release _ _ _ _ _ _ _ _ c.requires.may all e.cared;
      rings = e.rings ∙ i.rings;
      places = e.places ∙ i.places;
      waited = have_waited_then c.args.state.now.poller c.loop-ring.state.poller c.take_ring.new.state.poller c.args.lists.now.waiting.items c.loop-ring.lists.waiting.items c.take_ring.new.lists.waiting.items (i.did.goes.later, i.did.goes.seen_is) (e.did.goes.later, e.did.goes.seen_is) i.waited c.in_ok-take_ring.ensures.waited;
      taken = taken_next c.args.sleeper.now.tails _ _ c.loop-ring.ring c.tail-tail.result c.loop-ring.state c.take_ring.new.state c.loop-ring.lists.waiting c.take_ring.new.lists.waiting c.tail-tail.ensures e.others e.stopped i.taken c.in_ok-take_ring.ensures.taken;
      stuck = λ s. e.stuck (i.stuck s);
    }

pub returns-after-loop-ring-clause-taken : goal.returns-after-loop-ring-clause-taken
returns-after-loop-ring-clause-taken g c = let done = c.loop-ring-test.false in let few = c.requires.rings.1 in ⊎_elim (λ t. inl (λ i lt. t i (omega (arith, done, few, lt)))) (λ s. inr s) c.loop-ring.invariant.taken

pub returns-then-len-from-clause-taken : goal.returns-then-len-from-clause-taken
returns-then-len-from-clause-taken g c = let few = c.if-len-from.true in let same_len = c.loop-ring.invariant.rings in let n = c.len.ensures in let m = c.from.ensures in ⊎_elim (λ t. inl (λ i lt. t i (omega (arith, few, same_len, n, m, lt)))) (λ s. inr s) c.loop-ring.invariant.taken
