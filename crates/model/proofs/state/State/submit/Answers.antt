use Rattle.history.specs.Legal.{Fits}
use Rattle.model.proofs.Common.{ap, arith, length, rules, sym, ◌<◌, ◌∙◌, ◌≡◌}
use Rattle.model.proofs.RingWrites.{row_of}
use Rattle.model.proofs.WideEvents.{submit_meets}
use Rattle.model.proofs.state.State.submit.Goals as goal

pub returns-clause-decided : goal.returns-clause-decided
returns-clause-decided c =
    let lt : c.args.req.ring < length c.self.inside.rings.items = omega arith in
    let k : c.args.req.k ≡ length c.index_mut.result.now = c.if-req-len.false ∙ c.len-2.ensures ∙ ap length (row_of _ _ _ lt c.index.ensures ∙ sym (row_of _ _ _ lt c.index_mut.ensures.value)) in
    let f : Fits c.args.sqe c.args.bytes.now = search rules in
    submit_meets _ _ c.self.view_is c.args.req c.args.sqe c.args.bytes.now c.args.last c.index_mut.result.now _ _ _ _ c.requires lt c.index_mut.ensures.value k f c.none_yet.ensures (c.in_ok-copy.ensures ∙ c.as_slice-2.ensures) c.empty.ensures c.in_ok-push.ensures.ok
