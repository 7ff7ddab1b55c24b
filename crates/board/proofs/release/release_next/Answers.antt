use Rattle.board.proofs.Common.{arith, owed, ℕ, ◌+◌, ◌≡◌}
use Rattle.board.proofs.RowLaws.{submitted_on}
use Rattle.board.proofs.Watching.{decides_after, paid_with, paid_on, paid_most}
use Rattle.board.proofs.release.release_next.Goals as goal

pub returns-in-Some-clause-steps : goal.returns-in-Some-clause-steps
returns-in-Some-clause-steps c = let old : ℕ = owed c.args.row.now (c.args.req.k + 1) in paid_most c.args.seat.now.me.0 c.release_plain.new.seat.me.0 2 (old + 3) c.release_plain.ensures.steps (omega arith)

pub release_by_row-requires-clause-here : goal.release_by_row-requires-clause-here
release_by_row-requires-clause-here c = submitted_on c.args.board.now c.args.seat.now c.release_plain.new.seat c.args.cell.index c.args.cell.generation c.args.req c.in-None.ensures.watched c.requires.here

pub returns-in-None-clause-decides : goal.returns-in-None-clause-decides
returns-in-None-clause-decides c = let e = c.in-None.ensures in decides_after c.args.board.now c.args.req c.args.seat.now c.release_plain.new.seat c.release_by_row.new.seat 0 1 c.release_by_row.result e.watched e.step c.release_by_row.ensures.decides

pub returns-in-None-clause-steps : goal.returns-in-None-clause-steps
returns-in-None-clause-steps c = let s = c.args.seat.now.me.0 in let t = c.release_plain.new.seat.me.0 in let u = c.release_by_row.new.seat.me.0 in let e = c.in-None.ensures in
    let old : ℕ = owed c.args.row.now (c.args.req.k + 1) in let new : ℕ = owed c.release_plain.new.row (c.args.req.k + 1) in
    let same : new ≡ old = (let a = e.same.0 in let w = e.same.1 in omega arith) in
    paid_on s t u (old + 3) (new + 2) 0 (paid_with s t 1 0 (old + 3) (new + 2) e.step (new + 2) (omega (arith, same)) (omega arith)) c.release_by_row.ensures.steps
