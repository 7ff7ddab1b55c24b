use Rattle.ring_c.proofs.Common.{Closed, Err}
use Rattle.ring_c.proofs.Through.{through_box, through_closed}
use Rattle.ring_c.proofs.calls.ring_c_work.Goals as goal

pub returns-in_default-clause-worked : goal.returns-in_default-clause-worked
returns-in_default-clause-worked c = (Err Closed, c.of.ensures, through_closed _ _ _ c.in_default.ensures.old c.in_default.ensures.new)

pub returns-clause-worked : goal.returns-clause-worked
returns-clause-worked c = (c.work_in-answer.result, c.of-2.ensures, through_box _ _ _ _ _ _ _ c.in-Some.ensures.old c.deref_mut.ensures.value c.put.ensures.new c.work_in-answer.ensures)
