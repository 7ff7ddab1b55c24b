use Rattle.board.proofs.Common.{NotHeld, arith, owed, waiting, ℕ, ◌*◌, ◌+◌, ◌≤◌}
use Rattle.board.proofs.RowLaws.{knows_on, watches_held}
use Rattle.board.proofs.Watching.{watched_then, decides_after, paid_with, paid_on}
use Rattle.board.proofs.release.follow.Goals as goal

pub returns : goal.returns
returns c = record {
  watched = watched_then c.args.board.now c.args.seat.now c.take_in.new.seat c.is_held.new.seat c.take_in.ensures.watched c.is_held.ensures.watched;
  knows = knows_on c.args.board.now c.take_in.new.seat c.is_held.new.seat c.is_held.ensures.watched c.args.board.now.layout.cells c.args.req.ring c.take_in.new.row c.take_in.ensures.knows;
  watches = λ is. watches_held c.args.board.now.layout.cells c.is_held.new.seat.me.0.seen c.args.req c.take_in.new.row (c.is_held.ensures.held is).0 c.take_in.ensures.has (knows_on c.args.board.now c.take_in.new.seat c.is_held.new.seat c.is_held.ensures.watched c.args.board.now.layout.cells c.args.req.ring c.take_in.new.row c.take_in.ensures.knows);
  lost = λ is. decides_after c.args.board.now c.args.req c.args.seat.now c.take_in.new.seat c.is_held.new.seat _ _ NotHeld c.take_in.ensures.watched c.take_in.ensures.steps (c.is_held.ensures.lost is);
  steps = let s = c.args.seat.now in let t = c.take_in.new.seat in let u = c.is_held.new.seat in let k = c.args.req.k in let w : ℕ = waiting c.take_in.new.row in let old : ℕ = owed c.args.row.now (k + 1) in let new : ℕ = owed c.take_in.new.row (k + 1) in let le : 3 * w ≤ new = omega arith in paid_on s.me.0 t.me.0 u.me.0 (old + 1) (3 * w + 1) (3 * w) (paid_with s.me.0 t.me.0 old new (old + 1) (3 * w + 1) c.take_in.ensures.steps 1 (omega arith) (omega arith)) (paid_with t.me.0 u.me.0 1 0 (3 * w + 1) (3 * w) c.is_held.ensures.steps (3 * w) (omega arith) (omega arith));
}
