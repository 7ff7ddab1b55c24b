use Rattle.board.proofs.Common.{arith, owed, waiting, ℕ, ◌*◌, ◌+◌}
use Rattle.board.proofs.RowLaws.{knows_on, numbered_at, held_born}
use Rattle.board.proofs.Watching.{still_ours, watched_then, paid_on, paid_with}
use Rattle.board.proofs.alarm.take_up.Goals as goal

pub returns-then-not-is_held-clause-knows : goal.returns-then-not-is_held-clause-knows
returns-then-not-is_held-clause-knows c = let b = c.args.board.now in let q = c.args.req in let s = c.args.seat.now in let t = c.is_held.new.seat in let r = c.requires in let f = c.is_held.ensures in knows_on b s t f.watched b.layout.cells q.ring c.args.row.now r.knows

pub take_in-requires-clause-numbered : goal.take_in-requires-clause-numbered
take_in-requires-clause-numbered c = let b = c.args.board.now in let q = c.args.req in let s = c.args.seat.now in let t = c.is_held.new.seat in let r = c.requires in let f = c.is_held.ensures in numbered_at b.layout.cells c.args.cell.index c.args.cell.generation q r.at (f.held c.if-not-is_held.false).1

pub take_in-requires-clause-born : goal.take_in-requires-clause-born
take_in-requires-clause-born c = let b = c.args.board.now in let q = c.args.req in let s = c.args.seat.now in let t = c.is_held.new.seat in let r = c.requires in let f = c.is_held.ensures in held_born b t q (still_ours b s t f.watched) (f.held c.if-not-is_held.false).0

pub take_in-requires-clause-knows : goal.take_in-requires-clause-knows
take_in-requires-clause-knows c = let b = c.args.board.now in let q = c.args.req in let s = c.args.seat.now in let t = c.is_held.new.seat in let r = c.requires in let f = c.is_held.ensures in knows_on b s t f.watched b.layout.cells q.ring c.args.row.now r.knows

pub returns-clause-watched : goal.returns-clause-watched
returns-clause-watched c = let b = c.args.board.now in let q = c.args.req in let s = c.args.seat.now in let t = c.is_held.new.seat in let r = c.requires in let f = c.is_held.ensures in watched_then b s t c.take_in.new.seat f.watched c.take_in.ensures.watched

pub returns-clause-steps : goal.returns-clause-steps
returns-clause-steps c = let b = c.args.board.now in let q = c.args.req in let s = c.args.seat.now in let t = c.is_held.new.seat in let r = c.requires in let f = c.is_held.ensures in λ _. (let u = c.take_in.new.seat in let w : ℕ = waiting c.take_in.new.row in let old : ℕ = owed c.args.row.now (q.k + 1) in let new : ℕ = owed c.take_in.new.row (q.k + 1) in
    paid_on s.me.0 t.me.0 u.me.0 (old + 1) old (3 * w) (paid_with s.me.0 t.me.0 1 0 (old + 1) old f.steps old (omega arith) (omega arith)) (paid_with t.me.0 u.me.0 old new old (3 * w) c.take_in.ensures.steps 0 (omega arith) (omega arith)))
