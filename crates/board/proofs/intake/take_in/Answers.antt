use Rattle.board.proofs.Watching.{born_on, watched_then, paid_on}
use Rattle.board.proofs.intake.take_in.Goals as goal

pub take_one-requires-clause-born : goal.take_one-requires-clause-born
take_one-requires-clause-born c = born_on c.args.board.now c.args.seat.now c.loop-req.seat c.args.req.ring c.args.req.k c.loop-req.invariant.watched c.requires.born

pub loop-req-preserved : goal.loop-req-preserved
loop-req-preserved c = let i = c.loop-req.invariant in let e = c.take_one.ensures in record {
  watched = watched_then c.args.board.now c.args.seat.now c.loop-req.seat c.take_one.new.seat i.watched e.watched;
  knows = e.knows;
  paid = paid_on c.args.seat.now.me.0 c.loop-req.seat.me.0 c.take_one.new.seat.me.0 _ _ _ i.paid e.steps;
}
