use Rattle.model.proofs.Common.{List, Request, answer_in, ap, arith, bytes_in, length, moved, now, of_z, put_reply, refl, slice_get, subst, sym, to_z, w32, ◌<◌, ◌∙◌, ◌≡◌}
use Rattle.model.proofs.PipeEnds.{signed}
use Rattle.model.proofs.RingWrites.{row_of}
use Rattle.model.proofs.ReplyEvents.{reply_follows, reply_meets, reply_misses}
use Rattle.model.proofs.state.State.reply.Goals as goal

pub returns-in_default-clause-decided : goal.returns-in_default-clause-decided
returns-in_default-clause-decided c =
    let lt : c.args.req.ring < length c.self.inside.rings.items = omega arith in
    reply_misses _ _ c.self.view_is c.args.req c.args.res c.args.told.now c.index.result.now c.deref.result.now (row_of _ _ _ lt c.index.ensures) c.deref.ensures.value
    (λ e. c.in_default.ensures.no refl (e ∙ sym (λ i. now (signed c.args.res c.ranges.res i) (c.as_slice.ensures i))))

pub returns-in_err-taken-clause-wanting : goal.returns-in_err-taken-clause-wanting
returns-in_err-taken-clause-wanting c =
    let lt : c.args.req.ring < length c.self.inside.rings.items = omega arith in
    reply_follows c.from_residual.result _ _ c.self.view_is c.args.req c.args.res _ c.args.told.now _ c.index.result.now _ (signed c.args.res c.ranges.res) c.as_slice.ensures c.deref.ensures.value (row_of _ _ _ lt c.index.ensures) (c.in-Some.ensures.yes c.in-Some.op refl).0

pub returns-in_err-carry-clause-wanting : goal.returns-in_err-carry-clause-wanting
returns-in_err-carry-clause-wanting c =
    let lt : c.args.req.ring < length c.self.inside.rings.items = omega arith in
    reply_follows c.from_residual-in_err-carry.result _ _ c.self.view_is c.args.req c.args.res _ c.args.told.now _ c.index.result.now _ (signed c.args.res c.ranges.res) c.as_slice.ensures c.deref.ensures.value (row_of _ _ _ lt c.index.ensures) (c.in-Some.ensures.yes c.in-Some.op refl).0

pub answer-requires : goal.answer-requires
answer-requires c =
    let lt : c.args.req.ring < length c.self.inside.rings.items = omega arith in
    let same : c.index.result.now ≡ c.index_mut.result.now = row_of _ _ _ lt c.index.ensures ∙ sym (row_of _ _ _ lt c.index_mut.ensures.value) in
    subst (λ (z : List Request). c.args.req.k < length z) same (c.in-Some.ensures.yes c.in-Some.op refl).2

pub returns-clause-decided : goal.returns-clause-decided
returns-clause-decided c =
    let lt : c.args.req.ring < length c.self.inside.rings.items = omega arith in
    let row-1 = row_of _ _ _ lt c.index.ensures in
    let same : c.index_mut.result.now ≡ c.index.result.now = row_of _ _ _ lt c.index_mut.ensures.value ∙ sym row-1 in
    let again : c.index-2.result.now ≡ c.index.result.now = row_of _ _ _ lt c.index-2.ensures ∙ sym row-1 in
    let y = c.in-Some.ensures.yes c.in-Some.op refl in
    let some : answer_in c.self.inside.pipes.items c.index.result.now c.args.req.k ≡ now c.args.res c.args.told.now =
    sym (ap (λ z. answer_in z c.index.result.now c.args.req.k) c.deref.ensures.value) ∙ y.0 ∙ (λ i. now (signed c.args.res c.ranges.res i) (c.as_slice.ensures i)) in
    let back : to_z w32 (of_z w32 c.args.res) ≡ c.args.res = signed c.args.res c.ranges.res in
    let q : c.carry.new.pipes.items ≡ moved c.self.inside.pipes.items c.in-Some.op c.bytes.result.now (to_z w32 (of_z w32 c.args.res)) = c.in_ok-carry.ensures.ok in
    reply_meets _ _ c.self.view_is c.args.req c.args.res c.args.told.now c.in_ok-taken.taken c.bytes.result.now c.in-Some.op c.index.result.now c.answer.new.self c.self.inside.pipes.items c.carry.new.pipes.items
    c.requires lt row-1 refl some y.1 (c.in_ok-taken.ensures ∙ c.as_slice-2.ensures) (c.bytes.ensures ∙ ap (λ z. bytes_in (slice_get z c.args.req.k)) again)
    (q ∙ ap (λ z. moved c.self.inside.pipes.items c.in-Some.op c.bytes.result.now z) back)
    (c.answer.ensures ∙ ap (λ z. put_reply c.index_mut.result.now c.args.req.k z c.in_ok-taken.taken) back ∙ ap (λ z. put_reply z c.args.req.k c.args.res c.in_ok-taken.taken) same)
