use Rattle.gates.proofs.Common.{arith, below_more, is_draining, length-map, slot_of, sym, ◌∙◌}
use Rattle.gates.proofs.Lists.{passes_at}
use Rattle.gates.proofs.cells.first_draining.Goals as goal

pub loop-j-preserved : goal.loop-j-preserved
loop-j-preserved c =
    let cs = c.args.cells.now.items in
    (omega arith, below_more _ _ c.loop-j.invariant.1 (passes_at is_draining cs c.loop-j.j _ c.cell_at.ensures ∙ sym c.is_draining.ensures ∙ c.if-not-is_draining.true))

pub returns-else-not-is_draining : goal.returns-else-not-is_draining
returns-else-not-is_draining c =
    let cs = c.args.cells.now.items in let n = length-map cs slot_of in
    record { within = omega arith; before = c.loop-j.invariant.1; here = λ lt. passes_at is_draining cs c.loop-j.j _ c.cell_at.ensures ∙ sym c.is_draining.ensures ∙ c.if-not-is_draining.false }
