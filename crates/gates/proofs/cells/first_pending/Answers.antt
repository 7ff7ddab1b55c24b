use Rattle.gates.proofs.Common.{arith, below_more, is_pending, length-map, slot_of, sym, ◌∙◌}
use Rattle.gates.proofs.Lists.{passes_at}
use Rattle.gates.proofs.cells.first_pending.Goals as goal

pub loop-j-preserved : goal.loop-j-preserved
loop-j-preserved c =
    let cs = c.args.cells.now.items in
    (omega arith, below_more _ _ c.loop-j.invariant.1 (passes_at is_pending cs c.loop-j.j _ c.cell_at.ensures ∙ sym c.is_pending.ensures ∙ c.if-not-is_pending.true))

pub returns-else-not-is_pending : goal.returns-else-not-is_pending
returns-else-not-is_pending c =
    let cs = c.args.cells.now.items in let n = length-map cs slot_of in
    record { within = omega arith; before = c.loop-j.invariant.1; here = λ lt. passes_at is_pending cs c.loop-j.j _ c.cell_at.ensures ∙ sym c.is_pending.ensures ∙ c.if-not-is_pending.false }
