use Rattle.runtime.proofs.Common.{Owed, ap, ◌∙◌}
use Rattle.runtime.proofs.TurnParts.{no_answers}
use Rattle.runtime.proofs.poll.came_to.Goals as goal

pub returns-then-has_timers-clause-still : goal.returns-then-has_timers-clause-still
returns-then-has_timers-clause-still c i = (
  c.if-state-2.false,
  ap (λ (z : Owed). z.numbers) (c.has_timers-has_timers.ensures.went_on no_answers).same.1 ∙ c.is_empty.ensures c.if-not-is_empty.false,
)

pub returns-else-has_timers-clause-still : goal.returns-else-has_timers-clause-still
returns-else-has_timers-clause-still c i = (
  c.if-state-2.false,
  ap (λ (z : Owed). z.numbers) (c.has_timers-has_timers.ensures.went_on no_answers).same.1 ∙ c.is_empty.ensures c.if-not-is_empty.false,
)
