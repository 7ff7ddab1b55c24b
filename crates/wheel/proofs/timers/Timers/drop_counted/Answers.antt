use Rattle.wheel.proofs.Common.{sym}
use Rattle.wheel.proofs.Fronts.{bound_dropped}
use Rattle.wheel.proofs.Slotting.{drops, stands}
use Rattle.wheel.proofs.timers.Timers.drop_counted.Goals as goal

pub drop_timer-requires : goal.drop_timer-requires
drop_timer-requires g c = stands c.self.inside.slots c.self.inside.deadlines.entries c.self.invariant.0 c.args.req c.in-Some.at c.slot_of.result (sym c.in-Some.ensures.old) c.slot_of.ensures

pub invariant_of-self-in-Some : goal.invariant_of-self-in-Some
invariant_of-self-in-Some g c =
    let es = c.self.inside.deadlines.entries in let fs = c.forget.new.deadlines.entries in (
      drops c.self.inside.slots es fs c.args.req c.self.invariant.0 c.forget.ensures.forgotten c.drop_timer.new.self c.in-Some.at c.slot_of.result (sym c.in-Some.ensures.old) c.slot_of.ensures c.drop_timer.ensures.dropped c.drop_timer.ensures.others,
      c.bound_left-self-inside.ensures (bound_dropped c.self.inside.soonest c.args.req es fs c.self.invariant.1 c.forget.ensures.forgotten),
    )
