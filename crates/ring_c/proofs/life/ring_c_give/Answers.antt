use Rattle.ring_c.proofs.Common.{Closed, Err, InUse, Inside, Ok, Some, ap, refl, sym, ◌∙◌}
use Rattle.ring_c.proofs.life.ring_c_give.Goals as goal

pub returns-then-is_open-clause-given : goal.returns-then-is_open-clause-given
returns-then-is_open-clause-given c = (Err InUse, c.number.ensures, (refl, refl))

pub returns-in_default-clause-given : goal.returns-in_default-clause-given
returns-in_default-clause-given c = (Err Closed, c.number-in_default.ensures, (c.in_default.ensures.new ∙ sym c.in_default.ensures.old, refl))

pub returns-in-Ok-clause-given : goal.returns-in-Ok-clause-given
returns-in-Ok-clause-given c = (Ok tt, refl, (c.deref_mut.result.now, c.pass_of-answer.new.inside, c.in-Ok.made.value, c.in-Some.ensures.old ∙ ap (λ (i : Inside). Some i) (sym c.deref_mut.ensures.value), c.put.ensures.new, c.open.ensures.new, c.in-Ok.ensures.given))

pub returns-in-Err-clause-given : goal.returns-in-Err-clause-given
returns-in-Err-clause-given c = (Err c.in-Err.code, c.number-in-Err.ensures, (c.put.ensures.new ∙ (ap (λ (i : Inside). Some i) (c.in-Err.ensures.refused ∙ c.deref_mut.ensures.value) ∙ sym c.in-Some.ensures.old), refl))
