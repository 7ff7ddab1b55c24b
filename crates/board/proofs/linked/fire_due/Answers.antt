use Rattle.board.proofs.Common.{DidStrike, FiresDue, arith, events_of, pass_of, subst, sym}
use Rattle.board.proofs.Strikes.{armed_still, fires_due, fires_over, strikes_fired}
use Rattle.board.proofs.Watching.{paid_add, paid_most}
use Rattle.board.proofs.linked.fire_due.Goals as goal

pub returns-in-Over : goal.returns-in-Over
returns-in-Over c = let b = c.args.board.now in let s = c.args.seat.now in let r = c.requires in let q = c.args.req in let t = c.strike-struck.new.seat in let e = c.strike-struck.ensures in let k = subst (DidStrike b q (pass_of s) (pass_of t)) c.in-Over.is e.strikes in record { seat = e.seat; fires = subst (FiresDue b s t c.args.cell.index c.args.cell.generation q c.args.deadline) (sym c.in-Over.is) (fires_over b q s t c.args.cell.index c.args.cell.generation c.args.deadline r.armed e.seat r.due k); over = λ _. e.steps; steps = paid_most s.me.0 t.me.0 2 3 e.steps (omega arith) }

pub end_fired-requires-clause-armed : goal.end_fired-requires-clause-armed
end_fired-requires-clause-armed c = let b = c.args.board.now in let s = c.args.seat.now in let r = c.requires in let q = c.args.req in let t = c.strike-struck.new.seat in let e = c.strike-struck.ensures in armed_still b q s t c.args.cell.index c.args.cell.generation c.args.deadline r.armed c.strike-struck.result e.seat e.strikes

pub end_fired-requires-clause-fired : goal.end_fired-requires-clause-fired
end_fired-requires-clause-fired c = let b = c.args.board.now in let s = c.args.seat.now in let r = c.requires in let q = c.args.req in let t = c.strike-struck.new.seat in let e = c.strike-struck.ensures in strikes_fired (events_of t.me.0.seen) q c.strike-struck.result c.in_default.not-Over e.strikes.tells

pub returns-in_default : goal.returns-in_default
returns-in_default c = let b = c.args.board.now in let s = c.args.seat.now in let r = c.requires in let q = c.args.req in let t = c.strike-struck.new.seat in let e = c.strike-struck.ensures in record { seat = c.end_fired.ensures.seat; fires = fires_due b q s t c.args.cell.index c.args.cell.generation c.args.deadline r.armed c.end_fired.new.seat c.strike-struck.result c.in_default.not-Over e.strikes c.end_fired.ensures.ends; over = λ is. absurd (c.in_default.not-Over is); steps = paid_add s.me.0 t.me.0 c.end_fired.new.seat.me.0 2 1 e.steps c.end_fired.ensures.steps }
