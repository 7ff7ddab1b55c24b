use Rattle.board.proofs.Common.{arith, owed, waiting, ℕ, ◌*◌, ◌+◌}
use Rattle.board.proofs.RowLaws.{submitted_on}
use Rattle.board.proofs.Watching.{decides_after, paid_with, paid_on}
use Rattle.board.proofs.release.release_by_row.Goals as goal

pub returns-then-not-follow-clause-decides : goal.returns-then-not-follow-clause-decides
returns-then-not-follow-clause-decides c = c.follow.ensures.lost c.if-not-follow.true

pub returns-then-not-follow-clause-steps : goal.returns-then-not-follow-clause-steps
returns-then-not-follow-clause-steps c = let s = c.args.seat.now.me.0 in let t = c.follow.new.seat.me.0 in let w : ℕ = waiting c.follow.new.row in let old : ℕ = owed c.args.row.now (c.args.req.k + 1) in
    paid_with s t (old + 1) (3 * w) (old + 2) 0 c.follow.ensures.steps 0 (omega arith) (omega arith)

pub decide-requires : goal.decide-requires
decide-requires c = record { here = submitted_on c.args.board.now c.args.seat.now c.follow.new.seat c.args.cell.index c.args.cell.generation c.args.req c.follow.ensures.watched c.requires.here; watches = c.follow.ensures.watches c.if-not-follow.false }

pub returns-clause-decides : goal.returns-clause-decides
returns-clause-decides c = let f = c.follow.ensures in decides_after c.args.board.now c.args.req c.args.seat.now c.follow.new.seat c.decide.new.seat _ _ c.decide.result f.watched f.steps c.decide.ensures.decides

pub returns-clause-steps : goal.returns-clause-steps
returns-clause-steps c = let s = c.args.seat.now.me.0 in let t = c.follow.new.seat.me.0 in let u = c.decide.new.seat.me.0 in let w : ℕ = waiting c.follow.new.row in let old : ℕ = owed c.args.row.now (c.args.req.k + 1) in
    paid_on s t u (old + 2) (3 * w + 1) 0 (paid_with s t (old + 1) (3 * w) (old + 2) (3 * w + 1) c.follow.ensures.steps 1 (omega arith) (omega arith)) c.decide.ensures.steps
