use Rattle.event_count.proofs.Common.{arith}
use Rattle.event_count.proofs.Steps.{enter_allows}
use Rattle.event_count.proofs.waiter.enter.Goals as goal

pub fetch_add-requires : goal.fetch_add-requires
fetch_add-requires c = let o = c.requires.own in (o.0, omega arith, enter_allows _ _ c.args.seat.now.me o.2 c.requires.outside)
