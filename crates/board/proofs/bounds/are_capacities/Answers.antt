use Rattle.board.proofs.Common.{ap, are_capacities, drop_all, sym, ◌∙◌}
use Rattle.board.proofs.ShapeBounds.{good_capacity, bad_capacity}
use Rattle.board.proofs.bounds.are_capacities.Goals as goal

pub returns-then-not-is_capacity : goal.returns-then-not-is_capacity
returns-then-not-is_capacity c = sym (c.loop-capacity.invariant ∙ bad_capacity c.args.pipes.now c.loop-capacity.capacity-index c.loop-capacity-test.true (sym c.if-not-is_capacity.ensures))

pub loop-capacity-preserved : goal.loop-capacity-preserved
loop-capacity-preserved c = c.loop-capacity.invariant ∙ good_capacity c.args.pipes.now c.loop-capacity.capacity-index c.loop-capacity-test.true (sym c.if-not-is_capacity.ensures)

pub returns : goal.returns
returns c = sym (c.loop-capacity.invariant ∙ ap are_capacities (drop_all c.loop-capacity.capacity-index c.args.pipes.now c.loop-capacity-test.false))
