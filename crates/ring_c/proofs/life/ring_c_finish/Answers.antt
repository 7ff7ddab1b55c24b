use Rattle.ring_c.proofs.Common.{Closed, Err}
use Rattle.ring_c.proofs.Through.{through_box, through_closed}
use Rattle.ring_c.proofs.life.ring_c_finish.Goals as goal

pub returns-in_default-clause-finished : goal.returns-in_default-clause-finished
returns-in_default-clause-finished c = (Err Closed, c.of.ensures, through_closed _ _ _ c.in_default.ensures.old c.in_default.ensures.new)

pub returns-clause-finished : goal.returns-clause-finished
returns-clause-finished c = (c.finish_in-answer.result, c.of-2.ensures, through_box _ _ _ _ _ _ _ c.in-Some.ensures.old c.deref_mut.ensures.value c.put.ensures.new c.finish_in-answer.ensures)
