use Rattle.board.proofs.Common.{arith, cells_in, clock_of, events_of, sym, ℕ, ◌+◌, ◌<◌, ◌∙◌}
use Rattle.board.proofs.Countings.{uncounted_alone}
use Rattle.board.proofs.Pollings.{polls_after}
use Rattle.board.proofs.RowLaws.{numbered_at}
use Rattle.board.proofs.Settlings.{kept_as, kept_link, linked_of}
use Rattle.board.proofs.TimersHeld.{clock_watched}
use Rattle.board.proofs.Watching.{paid_add, paid_most, paid_one}
use Rattle.board.proofs.polling.poll.Goals as goal

pub returns-in_default : goal.returns-in_default
returns-in_default c = let b = c.args.board.now in let s = c.args.seat.now in let r = c.requires in let q = c.args.req in let t = c.deadline_of.new.seat in let e = c.deadline_of.ensures in let w = e.watched in let m : ℕ = cells_in b.layout.cells q.ring in record { seat = w.seat; polls = record { goes = w.goes; tells = (c.in_default.ensures.told, e.found); others = w.freed_is }; steps = paid_most s.me.0 t.me.0 1 (m + 3) (paid_one _ _ s.me.0 t.me.0 e.step.5) (omega arith) }

pub poll_linked-requires-clause-unfired : goal.poll_linked-requires-clause-unfired
poll_linked-requires-clause-unfired c = let b = c.args.board.now in let s = c.args.seat.now in let r = c.requires in let q = c.args.req in let t = c.deadline_of.new.seat in let e = c.deadline_of.ensures in let w = e.watched in let a = c.in-Some.ensures.told.0 in let d = c.in-Some.deadline in let kept = c.in-Some.ensures.told.1 c.args.alarm r.knows in kept_link (events_of t.me.0.seen) q c.args.alarm kept (linked_of c.args.alarm c.in_default-alarm.not-Alone)

pub poll_linked-requires-clause-clock : goal.poll_linked-requires-clause-clock
poll_linked-requires-clause-clock c = let b = c.args.board.now in let s = c.args.seat.now in let r = c.requires in let q = c.args.req in let t = c.deadline_of.new.seat in let e = c.deadline_of.ensures in let w = e.watched in r.clock ∙ sym (clock_watched b s t r.ours.seat w)

pub returns-in_default-alarm : goal.returns-in_default-alarm
returns-in_default-alarm c = let b = c.args.board.now in let s = c.args.seat.now in let r = c.requires in let q = c.args.req in let t = c.deadline_of.new.seat in let e = c.deadline_of.ensures in let w = e.watched in let m : ℕ = cells_in b.layout.cells q.ring in let few = (numbered_at b.layout.cells c.args.cell.index c.args.cell.generation q r.at c.in-Some.ensures.told.0.small).few in let v = c.poll_linked.new.seat in
    record { seat = c.poll_linked.ensures.seat; polls = polls_after b q s t 0 1 c.args.alarm r.ours r.knows w (paid_one _ _ s.me.0 t.me.0 e.step.5) v c.args.polling.may_fire c.poll_linked.result (c.poll_linked.ensures.polls); steps = paid_most s.me.0 v.me.0 (1 + 3) (m + 3) (paid_add s.me.0 t.me.0 v.me.0 1 3 (paid_one _ _ s.me.0 t.me.0 e.step.5) c.poll_linked.ensures.steps) (omega arith) }

pub poll_expiry-requires-clause-due : goal.poll_expiry-requires-clause-due
poll_expiry-requires-clause-due c = let b = c.args.board.now in let s = c.args.seat.now in let r = c.requires in let q = c.args.req in let t = c.deadline_of.new.seat in let e = c.deadline_of.ensures in let w = e.watched in let now = clock_watched b s t r.ours.seat w in let old = r.clock in let le = c.if-deadline-polling.true in omega arith

pub poll_expiry-requires-clause-timeout : goal.poll_expiry-requires-clause-timeout
poll_expiry-requires-clause-timeout c = let b = c.args.board.now in let s = c.args.seat.now in let r = c.requires in let q = c.args.req in let t = c.deadline_of.new.seat in let e = c.deadline_of.ensures in let w = e.watched in let a = c.in-Some.ensures.told.0 in let d = c.in-Some.deadline in let kept = c.in-Some.ensures.told.1 c.args.alarm r.knows in let k = kept_as (events_of t.me.0.seen) q c.args.alarm kept _ c.in-Alone.is in (k.0, k.1, k.2.0, k.2.1)

pub returns-then-deadline-polling : goal.returns-then-deadline-polling
returns-then-deadline-polling c = let b = c.args.board.now in let s = c.args.seat.now in let r = c.requires in let q = c.args.req in let t = c.deadline_of.new.seat in let e = c.deadline_of.ensures in let w = e.watched in let m : ℕ = cells_in b.layout.cells q.ring in let v = c.poll_expiry.new.seat in
    record { seat = c.poll_expiry.ensures.seat; polls = polls_after b q s t 0 1 c.args.alarm r.ours r.knows w (paid_one _ _ s.me.0 t.me.0 e.step.5) v c.args.polling.may_fire c.poll_expiry.result (c.poll_expiry.ensures.polls c.args.polling.may_fire); steps = paid_most s.me.0 v.me.0 (1 + 1) (m + 3) (paid_add s.me.0 t.me.0 v.me.0 1 1 (paid_one _ _ s.me.0 t.me.0 e.step.5) c.poll_expiry.ensures.steps) (omega arith) }

pub returns-then-count-eq0 : goal.returns-then-count-eq0
returns-then-count-eq0 c = let b = c.args.board.now in let s = c.args.seat.now in let r = c.requires in let q = c.args.req in let t = c.deadline_of.new.seat in let e = c.deadline_of.ensures in let w = e.watched in let a = c.in-Some.ensures.told.0 in let d = c.in-Some.deadline in let kept = c.in-Some.ensures.told.1 c.args.alarm r.knows in let k = kept_as (events_of t.me.0.seen) q c.args.alarm kept _ c.in-Alone.is in let m : ℕ = cells_in b.layout.cells q.ring in let now = clock_watched b s t r.ours.seat w in let old = r.clock in let lt = c.if-deadline-polling.false in
    record { seat = w.seat; polls = record { goes = w.goes; tells = ((d, a.armed_is, (let z : clock_of (events_of t.me.0.seen) < d = omega arith in z)), (k.0, k.1, k.2.0), uncounted_alone (events_of t.me.0.seen) q d _ _ a.armed_is k c.if-count-eq0.true, e.found); others = w.freed_is }; steps = paid_most s.me.0 t.me.0 1 (m + 3) (paid_one _ _ s.me.0 t.me.0 e.step.5) (omega arith) }

pub poll_count-requires-clause-early : goal.poll_count-requires-clause-early
poll_count-requires-clause-early c = let b = c.args.board.now in let s = c.args.seat.now in let r = c.requires in let q = c.args.req in let t = c.deadline_of.new.seat in let e = c.deadline_of.ensures in let w = e.watched in let now = clock_watched b s t r.ours.seat w in let old = r.clock in let lt = c.if-deadline-polling.false in omega arith

pub poll_count-requires-clause-counts : goal.poll_count-requires-clause-counts
poll_count-requires-clause-counts c = let b = c.args.board.now in let s = c.args.seat.now in let r = c.requires in let q = c.args.req in let t = c.deadline_of.new.seat in let e = c.deadline_of.ensures in let w = e.watched in let a = c.in-Some.ensures.told.0 in let d = c.in-Some.deadline in let kept = c.in-Some.ensures.told.1 c.args.alarm r.knows in let k = kept_as (events_of t.me.0.seen) q c.args.alarm kept _ c.in-Alone.is in let some' = c.if-count-eq0.false in (k.0, k.1, k.2.2, omega arith)

pub returns : goal.returns
returns c = let b = c.args.board.now in let s = c.args.seat.now in let r = c.requires in let q = c.args.req in let t = c.deadline_of.new.seat in let e = c.deadline_of.ensures in let w = e.watched in let m : ℕ = cells_in b.layout.cells q.ring in let v = c.poll_count.new.seat in
    record { seat = c.poll_count.ensures.seat; polls = polls_after b q s t 0 1 c.args.alarm r.ours r.knows w (paid_one _ _ s.me.0 t.me.0 e.step.5) v c.args.polling.may_fire c.poll_count.result (c.poll_count.ensures.polls c.args.polling.may_fire); steps = paid_most s.me.0 v.me.0 (1 + m) (m + 3) (paid_add s.me.0 t.me.0 v.me.0 1 m (paid_one _ _ s.me.0 t.me.0 e.step.5) c.poll_count.ensures.steps) (omega arith) }
