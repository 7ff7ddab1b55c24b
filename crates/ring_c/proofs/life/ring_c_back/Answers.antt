use Rattle.ring_c.proofs.Common.{Closed, Err, Foreign, refl, sym, ◌∙◌}
use Rattle.ring_c.proofs.life.ring_c_back.Goals as goal

pub returns-then-stamp-clause-back : goal.returns-then-stamp-clause-back
returns-then-stamp-clause-back c = (Err Foreign, c.number.ensures, (refl, refl))

pub returns-in_default-clause-back : goal.returns-in_default-clause-back
returns-in_default-clause-back c = (Err Closed, c.number-in_default.ensures, (c.in_default.ensures.new ∙ sym c.in_default.ensures.old, refl))

pub returns-in_default-take-clause-back : goal.returns-in_default-take-clause-back
returns-in_default-take-clause-back c = (Err Closed, c.number-in_default-take.ensures, (c.put.ensures.new ∙ sym c.in-Some.ensures.old, c.in_default-take.ensures.new ∙ sym c.in_default-take.ensures.old))
