use Rattle.ring_c.proofs.Common.{Err, InUse, Inside, Ok, Some, ap, inl, inr, refl, ◌∙◌}
use Rattle.ring_c.proofs.life.ring_c_new.Goals as goal

pub returns-then-is_open-clause-opened : goal.returns-then-is_open-clause-opened
returns-then-is_open-clause-opened c = (Err InUse, c.number.ensures, (refl, inl refl))

pub returns-in-Ok-clause-opened : goal.returns-in-Ok-clause-opened
returns-in-Ok-clause-opened c = let m = c.in-Ok.ensures.made in (Ok tt, refl, (m.0, c.open.ensures.new ∙ ap (λ (i : Inside). Some i) m.1, m.2))

pub returns-in-Err-clause-opened : goal.returns-in-Err-clause-opened
returns-in-Err-clause-opened c = (Err c.in-Err.code, c.number-in-Err.ensures, (refl, inr c.in-Err.ensures.refused))
