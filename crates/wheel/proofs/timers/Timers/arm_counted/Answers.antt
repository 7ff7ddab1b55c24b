use Rattle.std.proofs.lemmas.Result.{err_from_is_err_and}
use Rattle.wheel.proofs.Common.{Bool, ap, armed, deadline_at, deadline_in, false, none-some, not, refl, subst, sym, true, ◌∙◌, ◌≡◌}
use Rattle.wheel.proofs.Fronts.{bound_armed, bound_reordered}
use Rattle.wheel.proofs.Slotting.{armed_map, arms_again, arms_new, moves, reordered, stands, unchanged}
use Rattle.wheel.proofs.timers.Timers.arm_counted.Goals as goal

pub invariant_of-self-in_err-arm : goal.invariant_of-self-in_err-arm
invariant_of-self-in_err-arm g c =
    let xs = c.self.inside.slots in let es = c.reserve.new.self.entries in
    let wheel = reordered xs c.self.inside.deadlines.entries es c.self.invariant.0 (λ q. c.reserve.ensures.entries.2 (q.ring, q.k)) in
    (unchanged xs c.arm.new.self es c.slot_of-slot.result wheel c.in_err-arm.ensures.err c.arm.ensures.others, bound_reordered c.self.inside.soonest c.self.inside.deadlines.entries es c.self.invariant.1 (λ q. c.reserve.ensures.entries.2 (q.ring, q.k)))

pub returns-in_err-arm-clause-err : goal.returns-in_err-arm-clause-err
returns-in_err-arm-clause-err g c =
    let p = err_from_is_err_and c.from_residual.result c.from_residual.ensures.1 in
    rw p.1 ((λ i q. c.reserve.ensures.entries.2 (q.ring, q.k) i) ∙ ap deadline_at c.self.view_is)

pub invariant_of-self-then-before-slot : goal.invariant_of-self-then-before-slot
invariant_of-self-then-before-slot g c =
    let xs = c.self.inside.slots in let es = c.reserve.new.self.entries in
    let wheel = reordered xs c.self.inside.deadlines.entries es c.self.invariant.0 (λ q. c.reserve.ensures.entries.2 (q.ring, q.k)) in (
      moves xs c.arm.new.self es c.note.new.deadlines.entries c.args.req c.args.at c.slot_of-slot.result c.slot_of-slot.ensures wheel c.note.ensures.noted c.in_ok-arm.ensures.ok c.arm.ensures.others
          c.drop_timer.new.self c.in-Some.old c.slot_of-before.result (sym c.in-Some.ensures.old) c.slot_of-before.ensures c.if-before-slot.true c.drop_timer.ensures.dropped c.drop_timer.ensures.others,
      bound_armed c.self.inside.soonest c.lower-self-inside.result c.args.at c.args.req es c.note.new.deadlines.entries (bound_reordered c.self.inside.soonest c.self.inside.deadlines.entries es c.self.invariant.1 (λ q. c.reserve.ensures.entries.2 (q.ring, q.k))) c.note.ensures.noted c.lower-self-inside.ensures.one c.lower-self-inside.ensures.other,
    )

pub invariant_of-self-else-before-slot : goal.invariant_of-self-else-before-slot
invariant_of-self-else-before-slot g c =
    let xs = c.self.inside.slots in let es = c.reserve.new.self.entries in
    let wheel = reordered xs c.self.inside.deadlines.entries es c.self.invariant.0 (λ q. c.reserve.ensures.entries.2 (q.ring, q.k)) in (
      arms_again xs c.arm.new.self es c.note.new.deadlines.entries c.args.req c.args.at c.slot_of-slot.result c.slot_of-slot.ensures wheel c.note.ensures.noted c.in_ok-arm.ensures.ok c.arm.ensures.others
          c.in-Some.old (sym c.in-Some.ensures.old) (sym c.if-before-slot.false ∙ c.slot_of-before.ensures),
      bound_armed c.self.inside.soonest c.lower-self-inside.result c.args.at c.args.req es c.note.new.deadlines.entries (bound_reordered c.self.inside.soonest c.self.inside.deadlines.entries es c.self.invariant.1 (λ q. c.reserve.ensures.entries.2 (q.ring, q.k))) c.note.ensures.noted c.lower-self-inside.ensures.one c.lower-self-inside.ensures.other,
    )

pub invariant_of-self-in_default : goal.invariant_of-self-in_default
invariant_of-self-in_default g c =
    let xs = c.self.inside.slots in let es = c.reserve.new.self.entries in
    let wheel = reordered xs c.self.inside.deadlines.entries es c.self.invariant.0 (λ q. c.reserve.ensures.entries.2 (q.ring, q.k)) in (
      arms_new xs c.arm.new.self es c.note.new.deadlines.entries c.args.req c.args.at c.slot_of-slot.result c.slot_of-slot.ensures wheel c.note.ensures.noted c.in_ok-arm.ensures.ok c.arm.ensures.others (sym c.in_default.ensures.old),
      bound_armed c.self.inside.soonest c.lower-self-inside.result c.args.at c.args.req es c.note.new.deadlines.entries (bound_reordered c.self.inside.soonest c.self.inside.deadlines.entries es c.self.invariant.1 (λ q. c.reserve.ensures.entries.2 (q.ring, q.k))) c.note.ensures.noted c.lower-self-inside.ensures.one c.lower-self-inside.ensures.other,
    )

pub returns-then-before-slot-clause-ok : goal.returns-then-before-slot-clause-ok
returns-then-before-slot-clause-ok g c = subst (λ z. deadline_at c.note.new.deadlines.entries ≡ armed (deadline_at z) c.args.req c.args.at) c.self.view_is (armed_map c.self.inside.deadlines.entries c.reserve.new.self.entries c.note.new.deadlines.entries c.args.req c.args.at (λ q. c.reserve.ensures.entries.2 (q.ring, q.k)) c.note.ensures.noted)

pub returns-then-before-slot-clause-one_slot : goal.returns-then-before-slot-clause-one_slot
returns-then-before-slot-clause-one_slot g c = λ none. absurd (none-some c.in-Some.old (sym none ∙ ap (λ z. deadline_at z c.args.req) (sym c.self.view_is) ∙ sym (c.reserve.ensures.entries.2 (c.args.req.ring, c.args.req.k)) ∙ sym c.in-Some.ensures.old))

pub returns-else-before-slot-clause-ok : goal.returns-else-before-slot-clause-ok
returns-else-before-slot-clause-ok g c = subst (λ z. deadline_at c.note.new.deadlines.entries ≡ armed (deadline_at z) c.args.req c.args.at) c.self.view_is (armed_map c.self.inside.deadlines.entries c.reserve.new.self.entries c.note.new.deadlines.entries c.args.req c.args.at (λ q. c.reserve.ensures.entries.2 (q.ring, q.k)) c.note.ensures.noted)

pub returns-in_default-clause-ok : goal.returns-in_default-clause-ok
returns-in_default-clause-ok g c = subst (λ z. deadline_at c.note.new.deadlines.entries ≡ armed (deadline_at z) c.args.req c.args.at) c.self.view_is (armed_map c.self.inside.deadlines.entries c.reserve.new.self.entries c.note.new.deadlines.entries c.args.req c.args.at (λ q. c.reserve.ensures.entries.2 (q.ring, q.k)) c.note.ensures.noted)

pub drop_timer-requires : goal.drop_timer-requires
drop_timer-requires g c =
    let xs = c.self.inside.slots in let es = c.reserve.new.self.entries in
    let wheel = reordered xs c.self.inside.deadlines.entries es c.self.invariant.0 (λ q. c.reserve.ensures.entries.2 (q.ring, q.k)) in
    ap (λ t. deadline_in t c.args.req) (c.arm.ensures.others c.slot_of-before.result c.if-before-slot.true) ∙ stands xs es wheel c.args.req c.in-Some.old c.slot_of-before.result (sym c.in-Some.ensures.old) c.slot_of-before.ensures

flipped : (b : Bool) → not b ≡ true → b ≡ false
flipped true e = sym e
flipped false e = refl

pub arm-requires : goal.arm-requires
arm-requires g c =
    let xs = c.self.inside.slots in let es = c.reserve.new.self.entries in
    let wheel = reordered xs c.self.inside.deadlines.entries es c.self.invariant.0 (λ q. c.reserve.ensures.entries.2 (q.ring, q.k)) in
    λ absent. wheel c.slot_of-slot.result c.args.req ∙ c.may_stand_in-is_absent.ensures (flipped c.may_stand_in-is_absent.result absent)
