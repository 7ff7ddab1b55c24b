use Rattle.ring_c.proofs.Common.{Closed, Err}
use Rattle.ring_c.proofs.Through.{through_box, through_closed}
use Rattle.ring_c.proofs.calls.ring_c_reap.Goals as goal

pub returns-in_default-clause-reaped : goal.returns-in_default-clause-reaped
returns-in_default-clause-reaped c = (Err Closed, c.of.ensures, through_closed _ _ _ c.in_default.ensures.old c.in_default.ensures.new)

pub returns-clause-reaped : goal.returns-clause-reaped
returns-clause-reaped c = (c.reap_in-answer.result, c.of-2.ensures, through_box _ _ _ _ _ _ _ c.in-Some.ensures.old c.deref_mut.ensures.value c.put.ensures.new c.reap_in-answer.ensures)
