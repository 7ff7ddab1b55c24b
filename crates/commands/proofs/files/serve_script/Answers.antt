use Rattle.commands.proofs.Common.{Keeps-refl, inl, inr}
use Rattle.commands.proofs.files.serve_script.Goals as goal

pub returns-in-Ok-clause-ends : goal.returns-in-Ok-clause-ends
returns-in-Ok-clause-ends g c = inr (_, rw c.deref.ensures.value at c.in-Ok.ensures.opened, c.perform.ensures.ends)

pub returns-in-Err-clause-ends : goal.returns-in-Err-clause-ends
returns-in-Err-clause-ends g c = inl (record { problem = c.in-Err.problem; which = c.in-Err.ensures.problem; status_is = c.tell.ensures.status; kept = Keeps-refl _; line = c.tell.ensures.line })
