use Rattle.wheel.proofs.Common.{sym, ◌∙◌}
use Rattle.wheel.proofs.Fronts.{at_bound}
use Rattle.wheel.proofs.timers.least.Goals as goal

pub returns-then-is_at-clause-least : goal.returns-then-is_at-clause-least
returns-then-is_at-clause-least g c = at_bound c.args.slots.now c.args.soonest c.slot_of-slot.result c.front-front.result c.requires c.front-front.ensures.sorted c.front-front.ensures.first (sym c.is_at.ensures ∙ c.if-is_at.true)
