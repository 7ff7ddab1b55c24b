use Rattle.steps.proofs.CutsJoinsEnd.{cuts_idle}
use Rattle.steps.proofs.table.next_worker.Goals as goal

pub split_seat-requires : goal.split_seat-requires
split_seat-requires c = let f = c.requires.fits in (f.0, f.1, cuts_idle _ _ c.args.seat.now.me.0 c.requires.live.0 c.requires.live.1)
