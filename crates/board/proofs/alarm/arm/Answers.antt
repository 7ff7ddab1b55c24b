use Rattle.board.proofs.Common.{[], arith, armed_by, events_of, owed, pass_of, submits, sym, waiting, ℕ, ◌*◌, ◌+◌, ◌∙◌, ◌≤◌}
use Rattle.board.proofs.RowLaws.{knows_goes, few_wait, few_added, owed_bound, submits_goes}
use Rattle.board.proofs.TimersHeld.{clock_watched}
use Rattle.board.proofs.TimerLooks.{arms_lost, arms_after}
use Rattle.board.proofs.Watching.{still_ours, paid_on, paid_with, paid_most}
use Rattle.board.proofs.alarm.arm.Goals as goal

pub returns-else-take_up-clause-arms : goal.returns-else-take_up-clause-arms
returns-else-take_up-clause-arms c = let b = c.args.board.now in let q = c.args.place.req in let s = c.args.seat.now in let t = c.take_up.new.seat in let r = c.requires in let e = c.take_up.ensures in arms_lost b q (pass_of s) (pass_of t) (e.lost c.if-take_up.false).0

pub arm_known-requires-clause-clock : goal.arm_known-requires-clause-clock
arm_known-requires-clause-clock c = let b = c.args.board.now in let q = c.args.place.req in let s = c.args.seat.now in let t = c.take_up.new.seat in let r = c.requires in let e = c.take_up.ensures in (r.clock.0 ∙ sym (clock_watched b s t r.ours.seat e.watched), r.clock.1)

pub returns-then-take_up-clause-arms : goal.returns-then-take_up-clause-arms
returns-then-take_up-clause-arms c = let b = c.args.board.now in let q = c.args.place.req in let s = c.args.seat.now in let t = c.take_up.new.seat in let r = c.requires in let e = c.take_up.ensures in arms_after b q s t c.arm_known.new.seat _ _ c.arm_known.result e.watched (e.steps c.if-take_up.true) c.arm_known.ensures.arms

pub returns-then-take_up-clause-steps : goal.returns-then-take_up-clause-steps
returns-then-take_up-clause-steps c = let b = c.args.board.now in let q = c.args.place.req in let s = c.args.seat.now in let t = c.take_up.new.seat in let r = c.requires in let e = c.take_up.ensures in let f = c.arm_known.ensures in let u = c.arm_known.new.seat in let row = c.args.row.now in let w : ℕ = waiting c.take_up.new.row in let old : ℕ = owed row (q.k + 1) in
    let n : ℕ = submits (events_of s.me.0.seen) q.ring in let m : ℕ = submits (events_of t.me.0.seen) q.ring in let z : ℕ = submits (events_of u.me.0.seen) q.ring in
    let g : n ≤ m = submits_goes b (pass_of s) (pass_of t) [] q.ring e.watched.goes in let h : m ≤ z = submits_goes b (pass_of t) (pass_of u) (armed_by c.arm_known.result q) q.ring f.arms.goes in
    let lt = e.has c.if-take_up.true in let few' = few_added b t b.layout.cells q.ring c.take_up.new.row (still_ours b s t e.watched) e.knows in let few = few_added b s b.layout.cells q.ring row r.ours r.knows in
    let most : old ≤ 4 * z = owed_bound row q.k z (few_wait b.layout.cells s.me.0.seen q.ring row r.knows) (omega arith) (omega arith) in
    paid_on s.me.0 t.me.0 u.me.0 (4 * z + 5) (3 * w + 4) 0 (paid_with s.me.0 t.me.0 (old + 1) (3 * w) (4 * z + 5) (3 * w + 4) (e.steps c.if-take_up.true) 4 (omega arith) (omega arith)) f.steps

pub returns-then-req-plain-clause-knows : goal.returns-then-req-plain-clause-knows
returns-then-req-plain-clause-knows c = let b = c.args.board.now in let q = c.args.place.req in knows_goes b (pass_of c.args.seat.now) (pass_of c.arm_plain.new.seat) (armed_by c.arm_plain.result q) c.arm_plain.ensures.arms.goes b.layout.cells q.ring c.args.row.now c.requires.knows

pub returns-then-req-plain-clause-steps : goal.returns-then-req-plain-clause-steps
returns-then-req-plain-clause-steps c = let u = c.arm_plain.new.seat in let z : ℕ = submits (events_of u.me.0.seen) c.args.place.req.ring in paid_most c.args.seat.now.me.0 u.me.0 4 (4 * z + 5) c.arm_plain.ensures.steps (omega arith)
