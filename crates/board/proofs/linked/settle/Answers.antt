use Rattle.board.proofs.Common.{arith, events_of, inl, inr}
use Rattle.board.proofs.Settlings.{kept_alone, kept_link, settles_after}
use Rattle.board.proofs.Watching.{paid_add, paid_most, paid_one}
use Rattle.board.proofs.linked.settle.Goals as goal

pub returns-in_default : goal.returns-in_default
returns-in_default c = let b = c.args.board.now in let s = c.args.seat.now in let r = c.requires in let q = c.args.req in let t = c.deadline_of.new.seat in let e = c.deadline_of.ensures in let w = e.watched in record { seat = w.seat; settles = record { goes = w.goes; tells = (inl c.in_default.ensures.told, e.found); others = w.freed_is }; steps = paid_most s.me.0 t.me.0 1 3 (paid_one _ _ s.me.0 t.me.0 e.step.5) (omega arith) }

pub returns-in_default-alarm : goal.returns-in_default-alarm
returns-in_default-alarm c = let b = c.args.board.now in let s = c.args.seat.now in let r = c.requires in let q = c.args.req in let t = c.deadline_of.new.seat in let e = c.deadline_of.ensures in let w = e.watched in let a = c.in-Some.ensures.told.0 in let d = c.in-Some.until in let kept = c.in-Some.ensures.told.1 c.args.alarm r.knows in record { seat = w.seat; settles = record { goes = w.goes; tells = (inr (kept_alone (events_of t.me.0.seen) q c.args.alarm kept c.in_default-alarm.not-Linked), e.found); others = w.freed_is }; steps = paid_most s.me.0 t.me.0 1 3 (paid_one _ _ s.me.0 t.me.0 e.step.5) (omega arith) }

pub settle_armed-requires-clause-unfired : goal.settle_armed-requires-clause-unfired
settle_armed-requires-clause-unfired c = let b = c.args.board.now in let s = c.args.seat.now in let r = c.requires in let q = c.args.req in let t = c.deadline_of.new.seat in let e = c.deadline_of.ensures in let w = e.watched in let a = c.in-Some.ensures.told.0 in let d = c.in-Some.until in let kept = c.in-Some.ensures.told.1 c.args.alarm r.knows in kept_link (events_of t.me.0.seen) q c.args.alarm kept c.in-Linked.is

pub returns : goal.returns
returns c = let b = c.args.board.now in let s = c.args.seat.now in let r = c.requires in let q = c.args.req in let t = c.deadline_of.new.seat in let e = c.deadline_of.ensures in let w = e.watched in record { seat = c.settle_armed.ensures.seat; settles = settles_after b q s t c.settle_armed.new.seat 0 1 c.settle_armed.result w (paid_one _ _ s.me.0 t.me.0 e.step.5) c.settle_armed.ensures.settles; steps = paid_add s.me.0 t.me.0 c.settle_armed.new.seat.me.0 1 2 (paid_one _ _ s.me.0 t.me.0 e.step.5) c.settle_armed.ensures.steps }
