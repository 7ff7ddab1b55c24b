use Rattle.board.proofs.Common.{Paid, Some, arith, armed_by, events_of, inl, inr, looks_at, pass_of, refl, subst, sym, waiting, ℕ, ◌*◌, ◌+◌, ◌∙◌}
use Rattle.board.proofs.RowLaws.{few_added, knows_goes, held_here, knows_on, submitted_on, watches_held}
use Rattle.board.proofs.TimersHeld.{clock_watched}
use Rattle.board.proofs.TimerLooks.{arms_after, arms_barred, arms_lost, as_timer, linked_looks, looks_few, timer_on}
use Rattle.board.proofs.Watching.{paid_add, paid_most, paid_spared, still_ours, watched_then}
use Rattle.board.specs.declared.poller.Arming.TheVariants.{NotHeld}
use Rattle.board.proofs.alarm.arm_known.Goals as goal

pub held_timer-requires-clause-born : goal.held_timer-requires-clause-born
held_timer-requires-clause-born c = let few = few_added c.args.board.now c.args.seat.now c.args.board.now.layout.cells c.args.place.req.ring c.args.row.now c.requires.ours c.requires.knows in let lt = c.requires.has in omega arith

pub returns-in-Err : goal.returns-in-Err
returns-in-Err c = let b = c.args.board.now in let q = c.args.place.req in let s = c.args.seat.now in let t = c.held_timer.new.seat in let r = c.requires in let e = c.held_timer.ensures in let w = e.watched in let x = c.in-Err.ensures.refused in let m : ℕ = 3 * waiting c.args.row.now in record { seat = w.seat; arms = x.arms; keeps = x.keeps c.args.alarm.now; knows = knows_on b s t w b.layout.cells q.ring c.args.row.now r.knows; steps = paid_most s.me.0 t.me.0 3 (m + 4) x.steps (omega arith) }

pub gate-requires : goal.gate-requires
gate-requires c = let b = c.args.board.now in let q = c.args.place.req in let s = c.args.seat.now in let t = c.held_timer.new.seat in let r = c.requires in let e = c.held_timer.ensures in let w = e.watched in let h = c.in-Ok.ensures.held in record { here = held_here b t c.args.place.cell.index c.args.place.cell.generation q (still_ours b s t w) r.at h.small h.held.0; watches = watches_held b.layout.cells t.me.0.seen q c.args.row.now h.held.0 r.has (knows_on b s t w b.layout.cells q.ring c.args.row.now r.knows) }

pub set_alarm-requires : goal.set_alarm-requires
set_alarm-requires c = let b = c.args.board.now in let q = c.args.place.req in let s = c.args.seat.now in let t = c.held_timer.new.seat in let r = c.requires in let e = c.held_timer.ensures in let w = e.watched in let h = c.in-Ok.ensures.held in let v = c.gate.new.seat in let g = c.in-Open.ensures in let x = watched_then b s t v w g.0.0 in
    record { here = submitted_on b t v c.args.place.cell.index c.args.place.cell.generation q g.0.0 (held_here b t c.args.place.cell.index c.args.place.cell.generation q (still_ours b s t w) r.at h.small h.held.0); «open» = (g.0.2, g.0.3); timer = timer_on b t v g.0.0 q (Some c.in-Ok.timer) h.born h.timer; clock = (r.clock.0 ∙ sym (clock_watched b s v r.ours.seat x), r.clock.1) }

pub returns-in-Open : goal.returns-in-Open
returns-in-Open c = let b = c.args.board.now in let q = c.args.place.req in let s = c.args.seat.now in let t = c.held_timer.new.seat in let r = c.requires in let e = c.held_timer.ensures in let w = e.watched in let h = c.in-Ok.ensures.held in let p = paid_most s.me.0 t.me.0 (looks_at (Some c.in-Ok.timer) + 1) 3 h.steps (let z = looks_few (Some c.in-Ok.timer) in omega arith) in let v = c.gate.new.seat in let g = c.in-Open.ensures in let m : ℕ = 3 * waiting c.args.row.now in let u = c.set_alarm.new.seat in let f = c.set_alarm.ensures in let k : ℕ = m + 0 in let y = paid_spared t.me.0 v.me.0 2 k g.1 in
    record { seat = f.seat; arms = arms_after b q s v u 0 (3 + k) c.set_alarm.result (watched_then b s t v w g.0.0) (paid_add s.me.0 t.me.0 v.me.0 3 k p y) f.arms; keeps = f.keeps; knows = knows_goes b (pass_of v) (pass_of u) (armed_by c.set_alarm.result q) f.arms.goes b.layout.cells q.ring c.gate.new.row g.0.1.knows; steps = paid_most s.me.0 u.me.0 ((3 + k) + 1) (m + 4) (paid_add s.me.0 v.me.0 u.me.0 (3 + k) 1 (paid_add s.me.0 t.me.0 v.me.0 3 k p y) f.steps) (omega arith) }

pub set_alarm-requires-in-Linked : goal.set_alarm-requires-in-Linked
set_alarm-requires-in-Linked c = let b = c.args.board.now in let q = c.args.place.req in let s = c.args.seat.now in let t = c.held_timer.new.seat in let r = c.requires in let e = c.held_timer.ensures in let w = e.watched in let h = c.in-Ok.ensures.held in let v = c.gate.new.seat in let g = c.in-Linked.ensures in let x = watched_then b s t v w g.0.0 in
    record { here = submitted_on b t v c.args.place.cell.index c.args.place.cell.generation q g.0.0 (held_here b t c.args.place.cell.index c.args.place.cell.generation q (still_ours b s t w) r.at h.small h.held.0); «open» = (g.0.3, g.0.4); timer = timer_on b t v g.0.0 q (Some c.in-Ok.timer) h.born h.timer; clock = (r.clock.0 ∙ sym (clock_watched b s v r.ours.seat x), r.clock.1) }

pub returns-in-Linked : goal.returns-in-Linked
returns-in-Linked c = let b = c.args.board.now in let q = c.args.place.req in let s = c.args.seat.now in let t = c.held_timer.new.seat in let r = c.requires in let e = c.held_timer.ensures in let w = e.watched in let h = c.in-Ok.ensures.held in let p = paid_most s.me.0 t.me.0 (looks_at (Some c.in-Ok.timer) + 1) 3 h.steps (let z = looks_few (Some c.in-Ok.timer) in omega arith) in let v = c.gate.new.seat in let g = c.in-Linked.ensures in let m : ℕ = 3 * waiting c.args.row.now in let u = c.set_alarm-in-Linked.new.seat in let f = c.set_alarm-in-Linked.ensures in let k : ℕ = m + 1 in let two = subst (λ (n : ℕ). Paid s.me.0 t.me.0 0 (n + 1)) (linked_looks (events_of v.me.0.seen) q c.in-Ok.timer (timer_on b t v g.0.0 q (Some c.in-Ok.timer) h.born h.timer) g.0.2) h.steps in let y = paid_spared t.me.0 v.me.0 0 k g.1 in
    record { seat = f.seat; arms = arms_after b q s v u 0 (3 + k) c.set_alarm-in-Linked.result (watched_then b s t v w g.0.0) (paid_add s.me.0 t.me.0 v.me.0 3 k p y) f.arms; keeps = f.keeps; knows = knows_goes b (pass_of v) (pass_of u) (armed_by c.set_alarm-in-Linked.result q) f.arms.goes b.layout.cells q.ring c.gate.new.row g.0.1.knows; steps = paid_most s.me.0 u.me.0 ((2 + k) + 1) (m + 4) (paid_add s.me.0 v.me.0 u.me.0 (2 + k) 1 (paid_add s.me.0 t.me.0 v.me.0 2 k two y) f.steps) (omega arith) }

pub returns-in-Severed : goal.returns-in-Severed
returns-in-Severed c = let b = c.args.board.now in let q = c.args.place.req in let s = c.args.seat.now in let t = c.held_timer.new.seat in let r = c.requires in let e = c.held_timer.ensures in let w = e.watched in let h = c.in-Ok.ensures.held in let p = paid_most s.me.0 t.me.0 (looks_at (Some c.in-Ok.timer) + 1) 3 h.steps (let z = looks_few (Some c.in-Ok.timer) in omega arith) in let v = c.gate.new.seat in let g = c.in-Severed.ensures in let m : ℕ = 3 * waiting c.args.row.now in let k : ℕ = m + 0 in let y = paid_spared t.me.0 v.me.0 2 k g.1 in
    record { seat = g.0.0.seat; arms = arms_barred b q s t v 0 3 0 k w p h.held h.found g.0.0 y (inl g.0.2) (as_timer (events_of v.me.0.seen) q c.in-Ok.timer (timer_on b t v g.0.0 q (Some c.in-Ok.timer) h.born h.timer)); keeps = refl; knows = g.0.1.knows; steps = paid_most s.me.0 v.me.0 (3 + k) (m + 4) (paid_add s.me.0 t.me.0 v.me.0 3 k p y) (omega arith) }

pub returns-in-Shut : goal.returns-in-Shut
returns-in-Shut c = let b = c.args.board.now in let q = c.args.place.req in let s = c.args.seat.now in let t = c.held_timer.new.seat in let r = c.requires in let e = c.held_timer.ensures in let w = e.watched in let h = c.in-Ok.ensures.held in let p = paid_most s.me.0 t.me.0 (looks_at (Some c.in-Ok.timer) + 1) 3 h.steps (let z = looks_few (Some c.in-Ok.timer) in omega arith) in let v = c.gate.new.seat in let g = c.in-Shut.ensures in let m : ℕ = 3 * waiting c.args.row.now in let k : ℕ = m + 1 in let y = paid_spared t.me.0 v.me.0 0 k g.1 in
    record { seat = g.0.0.seat; arms = arms_barred b q s t v 0 3 0 k w p h.held h.found g.0.0 y (inr g.0.2) (as_timer (events_of v.me.0.seen) q c.in-Ok.timer (timer_on b t v g.0.0 q (Some c.in-Ok.timer) h.born h.timer)); keeps = refl; knows = g.0.1.knows; steps = paid_most s.me.0 v.me.0 (3 + k) (m + 4) (paid_add s.me.0 t.me.0 v.me.0 3 k p y) (omega arith) }

pub returns-in-Lost : goal.returns-in-Lost
returns-in-Lost c = let b = c.args.board.now in let q = c.args.place.req in let s = c.args.seat.now in let t = c.held_timer.new.seat in let r = c.requires in let e = c.held_timer.ensures in let w = e.watched in let h = c.in-Ok.ensures.held in let p = paid_most s.me.0 t.me.0 (looks_at (Some c.in-Ok.timer) + 1) 3 h.steps (let z = looks_few (Some c.in-Ok.timer) in omega arith) in let v = c.gate.new.seat in let g = c.in-Lost.ensures in let m : ℕ = 3 * waiting c.args.row.now in let k : ℕ = m + 1 in
    record { seat = g.0.1; arms = arms_after b q s t v 0 3 NotHeld w p (arms_lost b q (pass_of t) (pass_of v) g.0.0); keeps = refl; knows = g.0.2; steps = paid_most s.me.0 v.me.0 (3 + k) (m + 4) (paid_add s.me.0 t.me.0 v.me.0 3 k p (paid_spared t.me.0 v.me.0 0 k g.1)) (omega arith) }
