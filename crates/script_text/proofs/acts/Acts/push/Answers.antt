use Rattle.script_text.proofs.Common.{Actor, IsKnown, length, refl, slice_get_read, subst, ◌<◌}
use Rattle.script_text.proofs.RingLines.{deeds_set}
use Rattle.script_text.proofs.acts.Acts.push.Goals as goal

pub returns-in_ok-push-in-Ring-clause-acts : goal.returns-in_ok-push-in-Ring-clause-acts
returns-in_ok-push-in-Ring-clause-acts c = λ ring.
    let vs = c.args.self.now.by_ring.items in
    let lt : c.in-Ring.ring < length vs = subst (λ (a : Actor). IsKnown a (length vs)) c.in-Ring.is c.requires.known in
    let found = slice_get_read vs (length vs) c.in-Ring.ring c.in-Some.acts.now refl lt c.in-Some.ensures.value in
    rw c.in-Ring.is (deeds_set vs c.in-Ring.ring c.in-Some.acts.now c.push-in-Some.new.self c.args.act ring lt found c.in_ok-push-in-Ring.ensures.items)
