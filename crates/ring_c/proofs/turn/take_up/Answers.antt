use Rattle.ring_c.proofs.TurnLaws.{turned_still, turned_then}
use Rattle.ring_c.proofs.turn.take_up.Goals as goal

pub loop-ring-init : goal.loop-ring-init
loop-ring-init c = turned_still _ _ _ c.requires.own

pub loop-ring-preserved : goal.loop-ring-preserved
loop-ring-preserved c = turned_then _ _ _ _ _ _ _ c.loop-ring.invariant c.take_ring.ensures
