use Rattle.ring_c.proofs.Common.{Closed, Err}
use Rattle.ring_c.proofs.Through.{through_closed, through_box}
use Rattle.ring_c.proofs.calls.ring_c_submit.Goals as goal

pub returns-in_default-clause-submitted : goal.returns-in_default-clause-submitted
returns-in_default-clause-submitted c = (Err Closed, c.of.ensures, through_closed _ _ _ c.in_default.ensures.old c.in_default.ensures.new)

pub returns-clause-submitted : goal.returns-clause-submitted
returns-clause-submitted c = (c.submit_in-answer.result, c.of-2.ensures, through_box _ _ _ _ _ _ _ c.in-Some.ensures.old c.deref_mut.ensures.value c.put.ensures.new c.submit_in-answer.ensures)
