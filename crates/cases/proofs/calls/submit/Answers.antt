use Rattle.cases.proofs.calls.submit.Goals as goal

pub returns-in-Ok : goal.returns-in-Ok
returns-in-Ok c = (c.in-Ok.ensures.submitted c.ring-ring.result c.ring-ring.ensures.role).1.kept
