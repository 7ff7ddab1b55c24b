use Rattle.board.proofs.Common.{arith, clock_of, events_of, inl, inr, ◌<◌}
use Rattle.board.proofs.Expiries.{expires_after}
use Rattle.board.proofs.Settlings.{kept_as, kept_link, linked_of}
use Rattle.board.proofs.TimersHeld.{clock_watched}
use Rattle.board.proofs.Watching.{paid_add, paid_most, paid_one}
use Rattle.board.proofs.alarm.expire.Goals as goal

pub returns-in_default : goal.returns-in_default
returns-in_default c = let b = c.args.board.now in let s = c.args.seat.now in let r = c.requires in let q = c.args.req in let t = c.deadline_of.new.seat in let e = c.deadline_of.ensures in let w = e.watched in record { seat = w.seat; expires = record { goes = w.goes; tells = (inl c.in_default.ensures.told, e.found); others = w.freed_is }; steps = paid_most s.me.0 t.me.0 1 2 (paid_one _ _ s.me.0 t.me.0 e.step.5) (omega arith) }

pub returns-in_default-alarm : goal.returns-in_default-alarm
returns-in_default-alarm c = let b = c.args.board.now in let s = c.args.seat.now in let r = c.requires in let q = c.args.req in let t = c.deadline_of.new.seat in let e = c.deadline_of.ensures in let w = e.watched in let a = c.in-Some.ensures.told.0 in let d = c.in-Some.deadline in let kept = c.in-Some.ensures.told.1 c.args.alarm r.knows in record { seat = w.seat; expires = record { goes = w.goes; tells = (inr (kept_link (events_of t.me.0.seen) q c.args.alarm kept (linked_of c.args.alarm c.in_default-alarm.not-Alone)).0, e.found); others = w.freed_is }; steps = paid_most s.me.0 t.me.0 1 2 (paid_one _ _ s.me.0 t.me.0 e.step.5) (omega arith) }

pub returns-then-clock-deadline : goal.returns-then-clock-deadline
returns-then-clock-deadline c = let b = c.args.board.now in let s = c.args.seat.now in let r = c.requires in let q = c.args.req in let t = c.deadline_of.new.seat in let e = c.deadline_of.ensures in let w = e.watched in let a = c.in-Some.ensures.told.0 in let d = c.in-Some.deadline in let kept = c.in-Some.ensures.told.1 c.args.alarm r.knows in let k = kept_as (events_of t.me.0.seen) q c.args.alarm kept _ c.in-Alone.is in let now = clock_watched b s t r.ours.seat w in let old = r.clock in let lt = c.if-clock-deadline.true in
    record { seat = w.seat; expires = record { goes = w.goes; tells = ((d, a.armed_is, (let z : clock_of (events_of t.me.0.seen) < d = omega arith in z)), (k.0, k.1, k.2.0), e.found); others = w.freed_is }; steps = paid_most s.me.0 t.me.0 1 2 (paid_one _ _ s.me.0 t.me.0 e.step.5) (omega arith) }

pub run_out-requires-clause-due : goal.run_out-requires-clause-due
run_out-requires-clause-due c = let b = c.args.board.now in let s = c.args.seat.now in let r = c.requires in let q = c.args.req in let t = c.deadline_of.new.seat in let e = c.deadline_of.ensures in let w = e.watched in let now = clock_watched b s t r.ours.seat w in let old = r.clock in let ge = c.if-clock-deadline.false in omega arith

pub run_out-requires-clause-timeout : goal.run_out-requires-clause-timeout
run_out-requires-clause-timeout c = let b = c.args.board.now in let s = c.args.seat.now in let r = c.requires in let q = c.args.req in let t = c.deadline_of.new.seat in let e = c.deadline_of.ensures in let w = e.watched in let a = c.in-Some.ensures.told.0 in let d = c.in-Some.deadline in let kept = c.in-Some.ensures.told.1 c.args.alarm r.knows in let k = kept_as (events_of t.me.0.seen) q c.args.alarm kept _ c.in-Alone.is in (k.0, k.1, k.2.0, k.2.1)

pub returns : goal.returns
returns c = let b = c.args.board.now in let s = c.args.seat.now in let r = c.requires in let q = c.args.req in let t = c.deadline_of.new.seat in let e = c.deadline_of.ensures in let w = e.watched in record { seat = c.run_out.ensures.seat; expires = expires_after b q s t c.run_out.new.seat 0 1 c.run_out.result w (paid_one _ _ s.me.0 t.me.0 e.step.5) c.run_out.ensures.expires; steps = paid_add s.me.0 t.me.0 c.run_out.new.seat.me.0 1 1 (paid_one _ _ s.me.0 t.me.0 e.step.5) c.run_out.ensures.steps }
