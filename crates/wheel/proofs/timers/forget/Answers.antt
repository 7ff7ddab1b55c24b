use Rattle.wheel.proofs.timers.forget.Goals as goal

pub returns-clause-forgotten : goal.returns-clause-forgotten
returns-clause-forgotten c = λ q. c.remove.ensures.updates.0 (q.ring, q.k)
