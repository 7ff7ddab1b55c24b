use Rattle.ring_c.proofs.Common.{Closed, Err}
use Rattle.ring_c.proofs.Through.{through_box, through_closed}
use Rattle.ring_c.proofs.calls.ring_c_tick.Goals as goal

pub returns-in_default-clause-ticked : goal.returns-in_default-clause-ticked
returns-in_default-clause-ticked c = (Err Closed, c.number.ensures, through_closed _ _ _ c.in_default.ensures.old c.in_default.ensures.new)

pub returns-clause-ticked : goal.returns-clause-ticked
returns-clause-ticked c = (c.tick_in-answer.result, c.answer_number.ensures, through_box _ _ _ _ _ _ _ c.in-Some.ensures.old c.deref_mut.ensures.value c.put.ensures.new c.tick_in-answer.ensures)
