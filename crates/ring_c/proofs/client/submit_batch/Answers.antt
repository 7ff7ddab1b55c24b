use Rattle.ring_c.proofs.Common.{Req, ap, inl, inr, refl}
use Rattle.ring_c.proofs.client.submit_batch.Goals as goal

pub returns-in-Ok-submit_batch-clause-submits : goal.returns-in-Ok-submit_batch-clause-submits
returns-in-Ok-submit_batch-clause-submits c = (c.in-Ok.batch.items, c.in-Ok.ensures.said, λ ring role. let e = c.in-Ok-submit_batch.ensures.submitted ring role in (ap (λ (r : Req). r.k) e.0, e.1))

pub returns-in-Err-clause-submits : goal.returns-in-Err-clause-submits
returns-in-Err-clause-submits c = inl (refl, c.in-Err.ensures.refused)

pub returns-in-Err-submit_batch-clause-submits : goal.returns-in-Err-submit_batch-clause-submits
returns-in-Err-submit_batch-clause-submits c = let e = c.in-Err-submit_batch.ensures in inr (e.refused.0, (c.in-Err-submit_batch.error, c.of_submit.ensures, c.in-Ok.batch.items, c.in-Ok.ensures.said, e.reason))
