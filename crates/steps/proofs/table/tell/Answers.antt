use Rattle.steps.proofs.CutsJoinsEnd.{cuts_messenger}
use Rattle.steps.proofs.table.tell.Goals as goal

pub split_seat-requires : goal.split_seat-requires
split_seat-requires c = let f = c.requires.fits in (f.0, f.1, cuts_messenger _ _ c.args.seat.now.me.0 c.requires.live)
