use Rattle.ring_c.proofs.Common.{Closed, Err}
use Rattle.ring_c.proofs.Through.{through_closed, through_seen}
use Rattle.ring_c.proofs.calls.ring_c_took.Goals as goal

pub returns-in_default-clause-took : goal.returns-in_default-clause-took
returns-in_default-clause-took c = (Err Closed, c.of.ensures, through_closed _ _ _ c.in_default.ensures.old c.in_default.ensures.new)

pub returns-clause-took : goal.returns-clause-took
returns-clause-took c = (c.took_in-answer.result, c.of-2.ensures, through_seen _ _ _ _ _ _ c.in-Some.ensures.old c.deref.ensures c.put.ensures.new c.took_in-answer.ensures.took)
