use Rattle.board.proofs.Common.{Some, arith, looks_at, ◌+◌, ◌∙◌, sym}
use Rattle.board.proofs.PlainRows.{plain_born, plain_may}
use Rattle.board.proofs.RowLaws.{held_here, knows_on}
use Rattle.board.proofs.TimersHeld.{clock_watched}
use Rattle.board.proofs.TimerLooks.{arms_after, looks_few}
use Rattle.board.proofs.Watching.{paid_add, paid_most, still_ours}
use Rattle.board.proofs.alarm.arm_plain.Goals as goal

pub held_timer-requires-clause-born : goal.held_timer-requires-clause-born
held_timer-requires-clause-born c = let r = c.requires in plain_born c.args.board.now c.args.seat.now c.args.place.req c.args.row.now r.knows r.plain r.ours

pub returns-in-Err : goal.returns-in-Err
returns-in-Err c = let b = c.args.board.now in let q = c.args.place.req in let s = c.args.seat.now in let t = c.held_timer.new.seat in let r = c.requires in let e = c.held_timer.ensures in let w = e.watched in let x = c.in-Err.ensures.refused in record { seat = w.seat; arms = x.arms; keeps = x.keeps c.args.alarm.now; steps = paid_most s.me.0 t.me.0 3 4 x.steps (omega arith) }

pub set_alarm-requires : goal.set_alarm-requires
set_alarm-requires c = let b = c.args.board.now in let q = c.args.place.req in let s = c.args.seat.now in let t = c.held_timer.new.seat in let r = c.requires in let e = c.held_timer.ensures in let w = e.watched in let h = c.in-Ok.ensures.held in record { here = held_here b t c.args.place.cell.index c.args.place.cell.generation q (still_ours b s t w) r.at h.small h.held.0; «open» = plain_may b t q c.args.row.now (knows_on b s t w b.layout.cells q.ring c.args.row.now r.knows) r.plain; timer = h.timer; clock = (r.clock.0 ∙ sym (clock_watched b s t r.ours.seat w), r.clock.1) }

pub returns-in-Ok : goal.returns-in-Ok
returns-in-Ok c = let b = c.args.board.now in let q = c.args.place.req in let s = c.args.seat.now in let t = c.held_timer.new.seat in let r = c.requires in let e = c.held_timer.ensures in let w = e.watched in let h = c.in-Ok.ensures.held in let p = paid_most s.me.0 t.me.0 (looks_at (Some c.in-Ok.timer) + 1) 3 h.steps (let z = looks_few (Some c.in-Ok.timer) in omega arith) in let v = c.set_alarm.new.seat in let f = c.set_alarm.ensures in
    record { seat = f.seat; arms = arms_after b q s t v 0 3 c.set_alarm.result w p f.arms; keeps = f.keeps; steps = paid_add s.me.0 t.me.0 v.me.0 3 1 p f.steps }
