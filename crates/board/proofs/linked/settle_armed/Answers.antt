use Rattle.board.proofs.Common.{arith}
use Rattle.board.proofs.Settlings.{armed_at_on, armed_on, linked_on, settles_after, settles_open, unfired_on}
use Rattle.board.proofs.Watching.{paid_add, paid_most}
use Rattle.board.proofs.linked.settle_armed.Goals as goal

pub returns-then-not-target_replied : goal.returns-then-not-target_replied
returns-then-not-target_replied c = record { seat = c.target_replied.ensures.watched.seat; settles = let b = c.args.board.now in let s = c.args.seat.now in let r = c.requires in let q = c.args.req in let d = c.args.deadline in let u = c.target_replied.new.seat in let k = c.target_replied.ensures in settles_open b q s u k.watched (k.pending c.if-not-target_replied.true) (d, armed_on b s u q d k.watched r.unfired.0 r.armed.armed_is); steps = paid_most c.args.seat.now.me.0 c.target_replied.new.seat.me.0 1 2 c.target_replied.ensures.steps (omega arith) }

pub end_linked-requires-clause-armed : goal.end_linked-requires-clause-armed
end_linked-requires-clause-armed c = let r = c.requires in armed_at_on c.args.board.now c.args.seat.now c.target_replied.new.seat c.args.req c.args.cell.index c.args.cell.generation c.args.deadline c.target_replied.ensures.watched r.unfired r.armed

pub end_linked-requires-clause-unfired : goal.end_linked-requires-clause-unfired
end_linked-requires-clause-unfired c = let b = c.args.board.now in let s = c.args.seat.now in let r = c.requires in let q = c.args.req in let u = c.target_replied.new.seat in let k = c.target_replied.ensures.watched in (linked_on b s u q k r.armed.born r.unfired.0, unfired_on b s u q k r.unfired.1)

pub returns : goal.returns
returns c = record { seat = c.end_linked.ensures.seat; settles = let s = c.args.seat.now in let u = c.target_replied.new.seat in let v = c.end_linked.new.seat in let k = c.target_replied.ensures in settles_after c.args.board.now c.args.req s u v 0 1 c.end_linked.result k.watched k.steps c.end_linked.ensures.settles; steps = paid_add c.args.seat.now.me.0 c.target_replied.new.seat.me.0 c.end_linked.new.seat.me.0 1 1 c.target_replied.ensures.steps c.end_linked.ensures.steps }
