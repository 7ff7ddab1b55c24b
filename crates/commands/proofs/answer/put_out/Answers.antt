use Rattle.commands.proofs.Printing.{whole_begun}
use Rattle.commands.proofs.answer.put_out.Goals as goal

pub returns-in-Err-clause-begun : goal.returns-in-Err-clause-begun
returns-in-Err-clause-begun g c = whole_begun _ _ _ _ c.in_ok-write_out.ensures.all c.flush.ensures.bytes
