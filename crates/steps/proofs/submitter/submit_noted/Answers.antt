use Rattle.steps.proofs.Common.{◌∙◌}
use Rattle.steps.proofs.Submissions.{no_count}
use Rattle.steps.proofs.submitter.submit_noted.Goals as goal

pub submit_counted-requires-clause-filled : goal.submit_counted-requires-clause-filled
submit_counted-requires-clause-filled c = let h = c.requires.filled in (h.0, h.1, h.2, h.3, h.4, h.5 ∙ c.in-Some.is)

pub submit_filled-requires-clause-filled : goal.submit_filled-requires-clause-filled
submit_filled-requires-clause-filled c = let h = c.requires.filled in (h.0, h.1, h.2, h.3, h.4, λ t. absurd (no_count h.0.sqe.op (h.5 ∙ c.in-None.is) t))
