use Rattle.std.proofs.lemmas.List.{get_or_past}
use Rattle.wheel.proofs.Common.{arith, cases_lt, no_timers, ⊎_elim, ◌<◌, ◌≤◌}
use Rattle.wheel.proofs.slots.Slots.new.Goals as goal

pub returns : goal.returns
returns c = λ s. ⊎_elim (λ (lt : s < 256). (let h = c.from_fn.ensures.items.at s no_timers lt in h.2.met.1)) (λ (ge : 256 ≤ s). get_or_past c.from_fn.result s no_timers (omega (arith, c.from_fn.ensures.items.long))) (cases_lt s 256)
