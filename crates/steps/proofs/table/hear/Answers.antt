use Rattle.steps.proofs.CutsJoinsEnd.{hears}
use Rattle.steps.proofs.table.hear.Goals as goal

pub join_seat-requires : goal.join_seat-requires
join_seat-requires c = let f = c.requires.fits in let b = c.requires.bare in (f.0, f.1, b.0, f.2, hears _ _ _ c.args.seat.now.me.0 c.args.other.me.0 c.requires.live b.1 b.2)
