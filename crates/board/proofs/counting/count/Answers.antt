use Rattle.board.proofs.Common.{arith, cells_in, events_of, ℕ, ◌+◌, ◌-◌}
use Rattle.board.proofs.CountLooks.{spends_add, spends_most, spends_own}
use Rattle.board.proofs.Countings.{counts_after, uncounted_alone, uncounted_linked}
use Rattle.board.proofs.Settlings.{kept_as}
use Rattle.board.proofs.Watching.{paid_add, paid_most, paid_one}
use Rattle.board.proofs.counting.count.Goals as goal

pub returns-in_default : goal.returns-in_default
returns-in_default c = let b = c.args.board.now in let s = c.args.seat.now in let r = c.requires in let q = c.args.req in let t = c.deadline_of.new.seat in let e = c.deadline_of.ensures in let w = e.watched in let m : ℕ = cells_in b.layout.cells q.ring in record { seat = w.seat; counts = record { goes = w.goes; tells = (c.in_default.ensures.told, e.found); others = w.freed_is }; steps = paid_most s.me.0 t.me.0 1 (m + 1) (paid_one _ _ s.me.0 t.me.0 e.step.5) (omega arith); looks = spends_most b.layout.cells q s.me.0 t.me.0 1 0 2 (m - 1) (spends_own b.layout.cells q e.step.0 e.step.1 e.step.2 s.me.0 t.me.0 e.step.3 e.step.4 e.step.5) (omega arith) (omega arith) }

pub returns-in_default-alarm : goal.returns-in_default-alarm
returns-in_default-alarm c = let b = c.args.board.now in let s = c.args.seat.now in let r = c.requires in let q = c.args.req in let t = c.deadline_of.new.seat in let e = c.deadline_of.ensures in let w = e.watched in let a = c.in-Some.ensures.told.0 in let d = c.in-Some.deadline in let kept = c.in-Some.ensures.told.1 c.args.alarm r.knows in let m : ℕ = cells_in b.layout.cells q.ring in record { seat = w.seat; counts = record { goes = w.goes; tells = (uncounted_linked (events_of t.me.0.seen) q d a.armed_is (kept_as (events_of t.me.0.seen) q c.args.alarm kept _ c.in_default-alarm.is), e.found); others = w.freed_is }; steps = paid_most s.me.0 t.me.0 1 (m + 1) (paid_one _ _ s.me.0 t.me.0 e.step.5) (omega arith); looks = spends_most b.layout.cells q s.me.0 t.me.0 1 0 2 (m - 1) (spends_own b.layout.cells q e.step.0 e.step.1 e.step.2 s.me.0 t.me.0 e.step.3 e.step.4 e.step.5) (omega arith) (omega arith) }

pub returns-then-count-eq0 : goal.returns-then-count-eq0
returns-then-count-eq0 c = let b = c.args.board.now in let s = c.args.seat.now in let r = c.requires in let q = c.args.req in let t = c.deadline_of.new.seat in let e = c.deadline_of.ensures in let w = e.watched in let a = c.in-Some.ensures.told.0 in let d = c.in-Some.deadline in let kept = c.in-Some.ensures.told.1 c.args.alarm r.knows in let m : ℕ = cells_in b.layout.cells q.ring in record { seat = w.seat; counts = record { goes = w.goes; tells = (uncounted_alone (events_of t.me.0.seen) q d _ _ a.armed_is (kept_as (events_of t.me.0.seen) q c.args.alarm kept _ c.in-Alone.is) c.if-count-eq0.true, e.found); others = w.freed_is }; steps = paid_most s.me.0 t.me.0 1 (m + 1) (paid_one _ _ s.me.0 t.me.0 e.step.5) (omega arith); looks = spends_most b.layout.cells q s.me.0 t.me.0 1 0 2 (m - 1) (spends_own b.layout.cells q e.step.0 e.step.1 e.step.2 s.me.0 t.me.0 e.step.3 e.step.4 e.step.5) (omega arith) (omega arith) }

pub count_armed-requires-clause-counts : goal.count_armed-requires-clause-counts
count_armed-requires-clause-counts c = let b = c.args.board.now in let s = c.args.seat.now in let r = c.requires in let q = c.args.req in let t = c.deadline_of.new.seat in let e = c.deadline_of.ensures in let w = e.watched in let a = c.in-Some.ensures.told.0 in let d = c.in-Some.deadline in let kept = c.in-Some.ensures.told.1 c.args.alarm r.knows in let k = kept_as (events_of t.me.0.seen) q c.args.alarm kept _ c.in-Alone.is in let some' = c.if-count-eq0.false in (k.0, k.1, k.2.2, omega arith)

pub returns : goal.returns
returns c = let b = c.args.board.now in let s = c.args.seat.now in let r = c.requires in let q = c.args.req in let t = c.deadline_of.new.seat in let e = c.deadline_of.ensures in let w = e.watched in let m : ℕ = cells_in b.layout.cells q.ring in let v = c.count_armed.new.seat in record {
  seat = c.count_armed.ensures.seat;
  counts = counts_after b q s t 0 1 c.args.alarm r.ours r.knows w (paid_one _ _ s.me.0 t.me.0 e.step.5) c.count_armed.new.seat c.count_armed.result c.count_armed.ensures.counts;
  steps = paid_most s.me.0 v.me.0 (1 + m) (m + 1) (paid_add s.me.0 t.me.0 v.me.0 1 m (paid_one _ _ s.me.0 t.me.0 e.step.5) c.count_armed.ensures.steps) (omega arith);
  looks = spends_most b.layout.cells q s.me.0 v.me.0 (1 + 1) (0 + (m - 1)) 2 (m - 1) (spends_add b.layout.cells q s.me.0 t.me.0 v.me.0 1 0 1 (m - 1) (spends_own b.layout.cells q e.step.0 e.step.1 e.step.2 s.me.0 t.me.0 e.step.3 e.step.4 e.step.5) c.count_armed.ensures.looks) (omega arith) (omega arith);
}
