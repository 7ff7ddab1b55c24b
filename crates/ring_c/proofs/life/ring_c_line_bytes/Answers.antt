use Rattle.ring_c.proofs.Common.{Closed, Err}
use Rattle.ring_c.proofs.Through.{through_closed, through_seen}
use Rattle.ring_c.proofs.life.ring_c_line_bytes.Goals as goal

pub returns-in_default-clause-bytes : goal.returns-in_default-clause-bytes
returns-in_default-clause-bytes c = (Err Closed, c.of.ensures, through_closed _ _ _ c.in_default.ensures.old c.in_default.ensures.new)

pub returns-clause-bytes : goal.returns-clause-bytes
returns-clause-bytes c = (c.line_bytes_in-answer.result, c.of-2.ensures, through_seen _ _ _ _ _ _ c.in-Some.ensures.old c.deref.ensures c.put.ensures.new c.line_bytes_in-answer.ensures.bytes)
