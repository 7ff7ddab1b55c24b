use Rattle.steps.proofs.CutsJoinsEnd.{cuts_submitter}
use Rattle.steps.proofs.table.next_submitter.Goals as goal

pub split_seat-requires : goal.split_seat-requires
split_seat-requires c = let f = c.requires.fits in let p = c.requires.poller in (f.0, f.1, cuts_submitter _ _ c.args.seat.now.me.0 p.0.0 p.0.1 p.1)
