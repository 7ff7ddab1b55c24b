use Rattle.board.specs.declared.poller.Settling.{Settling}
use Rattle.board.proofs.Common.{Settles, Watched, pass_of, previous, refl, subst, true}
use Rattle.board.proofs.Pollings.{polls_unsettled, settled_not}
use Rattle.board.proofs.Settlings.{settles_after}
use Rattle.board.proofs.Watching.{paid_add}
use Rattle.board.proofs.polling.poll_due.Goals as goal

pub end_linked-requires-clause-unfired : goal.end_linked-requires-clause-unfired
end_linked-requires-clause-unfired c = let b = c.args.board.now in let s = c.args.seat.now in let r = c.requires in let q = c.args.req in let d = c.args.deadline in let u = c.fire_due.new.seat in let f = c.fire_due.ensures in let o = c.in-Over.ensures.fires in let due = o.1.tells.0 in let w : Watched b s u = record { seat = f.seat; goes = o.1.goes; freed_is = o.1.others } in (due.linked, due.unfired)

pub end_linked-requires-clause-target : goal.end_linked-requires-clause-target
end_linked-requires-clause-target c = let b = c.args.board.now in let s = c.args.seat.now in let r = c.requires in let q = c.args.req in let d = c.args.deadline in let u = c.fire_due.new.seat in let f = c.fire_due.ensures in let o = c.in-Over.ensures.fires in let due = o.1.tells.0 in let w : Watched b s u = record { seat = f.seat; goes = o.1.goes; freed_is = o.1.others } in (previous q, o.1.tells.1, o.1.tells.2)

pub returns-in-Settled : goal.returns-in-Settled
returns-in-Settled c = let b = c.args.board.now in let s = c.args.seat.now in let r = c.requires in let q = c.args.req in let d = c.args.deadline in let u = c.fire_due.new.seat in let f = c.fire_due.ensures in let o = c.in-Over.ensures.fires in let due = o.1.tells.0 in let w : Watched b s u = record { seat = f.seat; goes = o.1.goes; freed_is = o.1.others } in let two = c.in-Over.ensures.over refl in let v = c.end_linked.new.seat in let k = c.end_linked.ensures in
    let m = settles_after b q s u v 0 2 Settling.Settled w two (subst (Settles b q (pass_of u) (pass_of v)) c.in-Settled.is k.settles) in record { seat = k.seat; polls = record { goes = m.goes; tells = m.tells; others = m.others }; steps = paid_add s.me.0 u.me.0 v.me.0 2 1 two k.steps }

pub returns-in_default : goal.returns-in_default
returns-in_default c = let b = c.args.board.now in let s = c.args.seat.now in let r = c.requires in let q = c.args.req in let d = c.args.deadline in let u = c.fire_due.new.seat in let f = c.fire_due.ensures in let o = c.in-Over.ensures.fires in let due = o.1.tells.0 in let w : Watched b s u = record { seat = f.seat; goes = o.1.goes; freed_is = o.1.others } in let two = c.in-Over.ensures.over refl in let v = c.end_linked.new.seat in let k = c.end_linked.ensures in
    let none = settled_not b q u v k.seat o.1.tells.2 c.end_linked.result c.in_default.not-Settled k.settles in record { seat = k.seat; polls = polls_unsettled b q s v d r.armed.ours k.seat r.armed.armed_is r.armed.born r.due.linked true (settles_after b q s u v 0 2 Settling.NotArmed w two (subst (Settles b q (pass_of u) (pass_of v)) none k.settles)); steps = paid_add s.me.0 u.me.0 v.me.0 2 1 two k.steps }

pub returns-in-Took-clause-polls : goal.returns-in-Took-clause-polls
returns-in-Took-clause-polls c = let k = c.in-Took.ensures.fires in record { goes = k.goes; tells = (refl, k.tells.0, k.tells.1); others = k.others }

pub returns-in-Missed-clause-polls : goal.returns-in-Missed-clause-polls
returns-in-Missed-clause-polls c = let k = c.in-Missed.ensures.fires in record { goes = k.goes; tells = (refl, k.tells.0, k.tells.1); others = k.others }
