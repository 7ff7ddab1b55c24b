use Rattle.runtime.specs.WorkTurns.{Desk}
use Rattle.runtime.proofs.Common.{Places, Shifts, [], ap, refl, subst, ◌∷◌}
use Rattle.runtime.proofs.ShiftLaws.{shifts_out, shifts_taken}
use Rattle.runtime.proofs.serving.WorkDesk.next.Goals as goal

pub returns-in-Some-clause-shifts : goal.returns-in-Some-clause-shifts
returns-in-Some-clause-shifts g c = subst (λ (d : Desk). Shifts d [] (c.in-Some.req ∷ []) (record { ready = c.self.inside.ready; kept = c.take.new.self.items; places = c.take.new.self.places })) c.self.view_is
    (shifts_out _ _ c.in-Some.req refl c.in-Some.ensures.taken)

pub returns-clause-shifts : goal.returns-clause-shifts
returns-clause-shifts g c = subst (λ (d : Desk). Shifts d [] (c.in-Some-next.req ∷ []) (record { ready = c.next.new.pass; kept = c.take.new.self.items; places = c.take.new.self.places })) c.self.view_is
    (shifts_taken (record { ready = c.self.inside.ready; kept = c.self.inside.kept.items; places = c.self.inside.kept.places }) _ c.in-Some-next.req c.in-Some-next.ensures (ap (λ (s : Places). s.items) c.in_default.ensures.taken.0))
