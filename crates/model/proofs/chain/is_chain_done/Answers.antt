use Rattle.model.proofs.Common.{ap, arith, length, pending_of, slice_get-get_or, sym, ◌-◌, ◌<◌, ◌∙◌}
use Rattle.model.proofs.RingReading.{joins_kept, undone_here, done_before}
use Rattle.model.proofs.chain.is_chain_done.Goals as goal

pub returns-then-is_pending : goal.returns-then-is_pending
returns-then-is_pending c =
    let lt : c.loop-m.m - 1 < length c.args.requests.now = omega arith in
    let j = joins_kept _ _ _ lt c.index-requests-m.is ∙ sym c.joins.ensures ∙ c.if-not-joins.false in
    let p = ap pending_of (slice_get-get_or _ _ _ lt) ∙ sym c.is_pending.ensures ∙ c.if-is_pending.true in
    sym (c.loop-m.invariant.1 ∙ undone_here _ _ c.loop-m-test.true j p)

pub loop-m-preserved : goal.loop-m-preserved
loop-m-preserved c =
    let lt : c.loop-m.m - 1 < length c.args.requests.now = omega arith in
    let j = joins_kept _ _ _ lt c.index-requests-m.is ∙ sym c.joins.ensures ∙ c.if-not-joins.false in
    let p = ap pending_of (slice_get-get_or _ _ _ lt) ∙ sym c.is_pending.ensures ∙ c.if-is_pending.false in
    (omega arith, c.loop-m.invariant.1 ∙ done_before _ _ c.loop-m-test.true j p)
