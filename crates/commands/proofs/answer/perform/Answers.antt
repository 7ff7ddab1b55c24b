use Rattle.commands.proofs.Common.{inr}
use Rattle.commands.proofs.answer.perform.Goals as goal

pub returns-in-Err-clause-ends : goal.returns-in-Err-clause-ends
returns-in-Err-clause-ends g c = inr (record { problem = c.in-Err.problem; status_is = c.tell.ensures.status; ends = c.in-Err.ensures.ends; err-said = _; said = c.in-Err.ensures.said; line = c.tell.ensures.line })
