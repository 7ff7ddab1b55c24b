use Rattle.ring_c.proofs.Common.{refl, ◌∙◌}
use Rattle.ring_c.proofs.client.reap.Goals as goal

pub returns-in-Ok-clause-reaps : goal.returns-in-Ok-clause-reaps
returns-in-Ok-clause-reaps c = let e = c.in-Ok.ensures in (c.len.ensures ∙ c.in-Ok.completion.buffer.ok.0, (c.in-Ok.completion, refl, refl, e.reaped, e.completion.0, e.completion.1, e.once))

pub returns-in-Err-clause-reaps : goal.returns-in-Err-clause-reaps
returns-in-Err-clause-reaps c = let e = c.in-Err.ensures in (refl, e.refused, (c.in-Err.error, c.of_reap.ensures, e.reason))
