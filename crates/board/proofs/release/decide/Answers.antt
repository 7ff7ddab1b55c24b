use Rattle.board.proofs.Common.{arith, pass_of, severed_by, waiting, ℕ, ◌*◌, ◌+◌}
use Rattle.board.proofs.LastSteps.{decides_shut}
use Rattle.board.proofs.RowLaws.{submitted_on, knows_goes}
use Rattle.board.proofs.Watching.{decides_after, paid_on, paid_with}
use Rattle.board.proofs.release.decide.Goals as goal

pub sever-requires-clause-here : goal.sever-requires-clause-here
sever-requires-clause-here c = submitted_on c.args.board.now c.args.seat.now c.gate.new.seat c.args.cell.index c.args.cell.generation c.args.req c.in-Severed.ensures.0.0 c.requires.here

pub free-requires-clause-here : goal.free-requires-clause-here
free-requires-clause-here c = submitted_on c.args.board.now c.args.seat.now c.gate.new.seat c.args.cell.index c.args.cell.generation c.args.req c.in-Open.ensures.0.0 c.requires.here

pub returns-in-Severed : goal.returns-in-Severed
returns-in-Severed c = record {
  seat = c.sever.ensures.seat;
  decides = let g = c.in-Severed.ensures in decides_after c.args.board.now c.args.req c.args.seat.now c.gate.new.seat c.sever.new.seat 2 _ c.sever.result g.0.0 g.1 c.sever.ensures.decides;
  knows = let b = c.args.board.now in knows_goes b (pass_of c.gate.new.seat) (pass_of c.sever.new.seat) (severed_by c.sever.result c.args.req) c.sever.ensures.decides.goes b.layout.cells c.args.req.ring c.gate.new.row c.in-Severed.ensures.0.1.knows;
  steps = let s = c.args.seat.now.me.0 in let t = c.gate.new.seat.me.0 in let w : ℕ = waiting c.args.row.now in paid_on s t c.sever.new.seat.me.0 (3 * w + 1) 1 0 (paid_with s t (3 * w + 0) 2 (3 * w + 1) 1 c.in-Severed.ensures.1 0 (omega arith) (omega arith)) c.sever.ensures.steps;
}

pub returns-in-Open : goal.returns-in-Open
returns-in-Open c = record {
  seat = c.free.ensures.seat;
  decides = let g = c.in-Open.ensures in decides_after c.args.board.now c.args.req c.args.seat.now c.gate.new.seat c.free.new.seat 2 _ c.free.result g.0.0 g.1 c.free.ensures.decides;
  knows = let b = c.args.board.now in knows_goes b (pass_of c.gate.new.seat) (pass_of c.free.new.seat) (severed_by c.free.result c.args.req) c.free.ensures.decides.goes b.layout.cells c.args.req.ring c.gate.new.row c.in-Open.ensures.0.1.knows;
  steps = let s = c.args.seat.now.me.0 in let t = c.gate.new.seat.me.0 in let w : ℕ = waiting c.args.row.now in paid_on s t c.free.new.seat.me.0 (3 * w + 1) 2 0 (paid_with s t (3 * w + 0) 2 (3 * w + 1) 2 c.in-Open.ensures.1 0 (omega arith) (omega arith)) c.free.ensures.steps;
}

pub returns-in-Shut-clause-decides : goal.returns-in-Shut-clause-decides
returns-in-Shut-clause-decides c = let g = c.in-Shut.ensures.0 in decides_shut c.args.board.now c.args.seat.now c.gate.new.seat c.args.req g.0 g.2
