use Rattle.wheel.proofs.timers.note.Goals as goal

pub returns-in-Ok-clause-noted : goal.returns-in-Ok-clause-noted
returns-in-Ok-clause-noted c = λ q. c.in-Ok.ensures.updates.0 (q.ring, q.k)
