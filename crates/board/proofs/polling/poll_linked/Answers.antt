use Rattle.board.proofs.Common.{IsDueLinked, arith, clock_of, events_of, ◌<◌}
use Rattle.board.proofs.Pollings.{polls_due, polls_open, polls_unsettled}
use Rattle.board.proofs.polling.poll_linked.Goals.{else-is_due-via-then-is_due+else-polling, else-is_due-via-else-is_due}
use Rattle.board.proofs.polling.poll_linked.Goals as goal

pub returns-then-is_due-2-clause-polls : goal.returns-then-is_due-2-clause-polls
returns-then-is_due-2-clause-polls c = let b = c.args.board.now in let s = c.args.seat.now in let r = c.requires in let q = c.args.req in let d = c.args.deadline in let e = c.settle_armed.ensures in let clock = r.clock in let le = c.if-is_due-2.true in
    let due : IsDueLinked (events_of s.me.0.seen) q = record { linked = r.unfired.0; born = r.armed.born; unfired = r.unfired.1; deadline = d; armed_is = r.armed.armed_is; due = omega (arith, clock, le) } in elim c.else-is_due.branch [
      | else-is_due-via-then-is_due+else-polling w ↦ polls_due b q s c.settle_armed.new.seat d r.armed.ours e.seat r.armed.armed_is r.armed.born r.unfired.0 c.args.polling.may_fire w.if-polling.false due c.in-TargetOpen.ensures.settles
      | else-is_due-via-else-is_due w ↦ absurd (let lt = w.if-is_due.false in omega (arith, le, lt))
    ]

pub returns-else-is_due-2-clause-polls : goal.returns-else-is_due-2-clause-polls
returns-else-is_due-2-clause-polls c = let b = c.args.board.now in let s = c.args.seat.now in let r = c.requires in let q = c.args.req in let e = c.settle_armed.ensures in let clock = r.clock in let lt = c.if-is_due-2.false in
    polls_open b q s c.settle_armed.new.seat c.args.deadline r.armed.ours e.seat r.armed.armed_is r.armed.born r.unfired.0 c.args.polling.may_fire (let z : clock_of (events_of s.me.0.seen) < c.args.deadline = omega (arith, clock, lt) in z) c.in-TargetOpen.ensures.settles

pub returns-in-NotArmed-clause-polls : goal.returns-in-NotArmed-clause-polls
returns-in-NotArmed-clause-polls c = let r = c.requires in polls_unsettled c.args.board.now c.args.req c.args.seat.now c.settle_armed.new.seat c.args.deadline r.armed.ours c.settle_armed.ensures.seat r.armed.armed_is r.armed.born r.unfired.0 c.args.polling.may_fire c.in-NotArmed.ensures.settles
