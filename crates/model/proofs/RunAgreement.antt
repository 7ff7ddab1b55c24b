-- From the requests of a state to the whole run.
use Rattle.model.proofs.Common.{Bool, Decided, Decision, Event, IsNext, Machine, MayFollow, arith, common_steps, false, refl, shut_for, sym, ◌∙◌, ◌≡◌}

-- the state is shut where the event wants it
pub decision : (b : Bool) (m : Machine) (e : Event) (n : Machine) → m.shut ≡ shut_for e → Decided b m e n → Decision b m e n
decision = grind (arith, common_steps)

pub ill_timed : (m : Machine) (e : Event) → ¬ (m.shut ≡ shut_for e) → Decision false m e m
ill_timed m e n = (refl, λ h a c. n (sym a.shut ∙ c.0))

pub following : (m : Machine) (e : Event) → m.shut ≡ shut_for e → MayFollow m e → IsNext m e
following m e s f = λ h a. (a.shut ∙ s, f h a)
