use Rattle.event_count.proofs.Common.{arith}
use Rattle.event_count.proofs.Steps.{leave_allows}
use Rattle.event_count.proofs.waiter.leave.Goals as goal

pub fetch_sub-requires : goal.fetch_sub-requires
fetch_sub-requires c = let o = c.requires.own in (o.0, omega arith, leave_allows _ _ c.args.seat.now.me o.2 c.requires.inside)
