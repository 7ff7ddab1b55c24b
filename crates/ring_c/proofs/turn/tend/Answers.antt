use Rattle.ring_c.proofs.TurnLaws.{turned_still}
use Rattle.ring_c.proofs.turn.tend.Goals as goal

pub returns-in-Unborn : goal.returns-in-Unborn
returns-in-Unborn c = turned_still _ _ _ c.requires.own

pub returns-in-Ready : goal.returns-in-Ready
returns-in-Ready c = turned_still _ _ _ c.requires.own
