use Rattle.board.proofs.Common.{arith, clock_of, events_of, inl, inr, pass_of, ◌<◌, ◌∙◌}
use Rattle.board.proofs.GoesLaws.{goes_then}
use Rattle.board.proofs.Settlings.{kept_alone, kept_link}
use Rattle.board.proofs.TimersHeld.{clock_watched}
use Rattle.board.proofs.Watching.{paid_add, paid_most, paid_one}
use Rattle.board.proofs.linked.fire.Goals as goal

pub returns-in_default : goal.returns-in_default
returns-in_default c = let b = c.args.board.now in let s = c.args.seat.now in let r = c.requires in let q = c.args.req in let t = c.deadline_of.new.seat in let e = c.deadline_of.ensures in let w = e.watched in record { seat = w.seat; fires = record { goes = w.goes; tells = (inl c.in_default.ensures.told, e.found); others = w.freed_is }; steps = paid_most s.me.0 t.me.0 1 4 (paid_one _ _ s.me.0 t.me.0 e.step.5) (omega arith) }

pub returns-in_default-alarm : goal.returns-in_default-alarm
returns-in_default-alarm c = let b = c.args.board.now in let s = c.args.seat.now in let r = c.requires in let q = c.args.req in let t = c.deadline_of.new.seat in let e = c.deadline_of.ensures in let w = e.watched in let a = c.in-Some.ensures.told.0 in let d = c.in-Some.deadline in let kept = c.in-Some.ensures.told.1 c.args.alarm r.knows in record { seat = w.seat; fires = record { goes = w.goes; tells = (inr (kept_alone (events_of t.me.0.seen) q c.args.alarm kept c.in_default-alarm.not-Linked), e.found); others = w.freed_is }; steps = paid_most s.me.0 t.me.0 1 4 (paid_one _ _ s.me.0 t.me.0 e.step.5) (omega arith) }

pub returns-then-clock-deadline : goal.returns-then-clock-deadline
returns-then-clock-deadline c = let b = c.args.board.now in let s = c.args.seat.now in let r = c.requires in let q = c.args.req in let t = c.deadline_of.new.seat in let e = c.deadline_of.ensures in let w = e.watched in let a = c.in-Some.ensures.told.0 in let d = c.in-Some.deadline in let kept = c.in-Some.ensures.told.1 c.args.alarm r.knows in let now = clock_watched b s t r.ours.seat w in let old = r.clock in let lt = c.if-clock-deadline.true in
    record { seat = w.seat; fires = record { goes = w.goes; tells = ((d, a.armed_is, (let z : clock_of (events_of t.me.0.seen) < d = omega arith in z)), (kept_link (events_of t.me.0.seen) q c.args.alarm kept c.in-Linked.is).0, e.found); others = w.freed_is }; steps = paid_most s.me.0 t.me.0 1 4 (paid_one _ _ s.me.0 t.me.0 e.step.5) (omega arith) }

pub fire_due-requires-clause-due : goal.fire_due-requires-clause-due
fire_due-requires-clause-due c = let b = c.args.board.now in let s = c.args.seat.now in let r = c.requires in let q = c.args.req in let t = c.deadline_of.new.seat in let e = c.deadline_of.ensures in let w = e.watched in let a = c.in-Some.ensures.told.0 in let d = c.in-Some.deadline in let kept = c.in-Some.ensures.told.1 c.args.alarm r.knows in let now = clock_watched b s t r.ours.seat w in let old = r.clock in let ge = c.if-clock-deadline.false in let k = kept_link (events_of t.me.0.seen) q c.args.alarm kept c.in-Linked.is in
    record { linked = k.0; born = a.born; unfired = k.1; deadline = d; armed_is = a.armed_is; due = omega arith }

pub returns-in-Over : goal.returns-in-Over
returns-in-Over c = let b = c.args.board.now in let s = c.args.seat.now in let r = c.requires in let q = c.args.req in let t = c.deadline_of.new.seat in let e = c.deadline_of.ensures in let w = e.watched in let v = c.fire_due.new.seat in let f = c.in-Over.ensures.fires.1 in record { seat = c.fire_due.ensures.seat; fires = record { goes = goes_then b (pass_of s) (pass_of t) (pass_of v) _ w.goes f.goes; tells = f.tells; others = λ i. f.others i ∙ w.freed_is i }; steps = paid_add s.me.0 t.me.0 v.me.0 1 3 (paid_one _ _ s.me.0 t.me.0 e.step.5) c.fire_due.ensures.steps }

pub returns-in-Took : goal.returns-in-Took
returns-in-Took c = let b = c.args.board.now in let s = c.args.seat.now in let r = c.requires in let q = c.args.req in let t = c.deadline_of.new.seat in let e = c.deadline_of.ensures in let w = e.watched in let v = c.fire_due.new.seat in let f = c.in-Took.ensures.fires in record { seat = c.fire_due.ensures.seat; fires = record { goes = goes_then b (pass_of s) (pass_of t) (pass_of v) _ w.goes f.goes; tells = f.tells; others = λ i. f.others i ∙ w.freed_is i }; steps = paid_add s.me.0 t.me.0 v.me.0 1 3 (paid_one _ _ s.me.0 t.me.0 e.step.5) c.fire_due.ensures.steps }

pub returns-in-Missed : goal.returns-in-Missed
returns-in-Missed c = let b = c.args.board.now in let s = c.args.seat.now in let r = c.requires in let q = c.args.req in let t = c.deadline_of.new.seat in let e = c.deadline_of.ensures in let w = e.watched in let v = c.fire_due.new.seat in let f = c.in-Missed.ensures.fires in record { seat = c.fire_due.ensures.seat; fires = record { goes = goes_then b (pass_of s) (pass_of t) (pass_of v) _ w.goes f.goes; tells = f.tells; others = λ i. f.others i ∙ w.freed_is i }; steps = paid_add s.me.0 t.me.0 v.me.0 1 3 (paid_one _ _ s.me.0 t.me.0 e.step.5) c.fire_due.ensures.steps }
