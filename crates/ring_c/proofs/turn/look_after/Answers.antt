use Rattle.ring_c.proofs.Common.{[], refl}
use Rattle.ring_c.proofs.TurnLaws.{turned_silent, turned_still, turned_then}
use Rattle.ring_c.proofs.turn.look_after.Goals as goal

pub returns : goal.returns
returns c = turned_then _ _ _ _ _ _ _ (turned_silent _ _ _ _ c.args.out.now [] refl c.look-phase.ensures.looks (c.look-phase.ensures.alone _ c.clock-clock.ensures.role) refl) c.tend.ensures

pub returns-then-not-is_free : goal.returns-then-not-is_free
returns-then-not-is_free c = turned_still _ _ _ c.requires.own
