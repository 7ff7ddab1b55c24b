use Rattle.board.proofs.Common.{ap, are_rings, drop_all, sym, ◌∙◌}
use Rattle.board.proofs.ShapeBounds.{good_ring, bad_ring}
use Rattle.board.proofs.bounds.are_rings.Goals as goal

pub returns-then-not-is_ring : goal.returns-then-not-is_ring
returns-then-not-is_ring c = sym (c.loop-ring.invariant ∙ bad_ring c.args.rings.now c.loop-ring.ring-index _ c.loop-ring-test.true (sym c.if-not-is_ring.ensures))

pub loop-ring-preserved : goal.loop-ring-preserved
loop-ring-preserved c = c.loop-ring.invariant ∙ good_ring c.args.rings.now c.loop-ring.ring-index _ c.loop-ring-test.true (sym c.if-not-is_ring.ensures)

pub returns : goal.returns
returns c = sym (c.loop-ring.invariant ∙ ap are_rings (drop_all c.loop-ring.ring-index c.args.rings.now c.loop-ring-test.false))
