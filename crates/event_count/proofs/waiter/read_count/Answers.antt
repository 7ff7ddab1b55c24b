use Rattle.event_count.proofs.Common.{Role, ap, arith, is_inside, number_of, ◌∙◌}
use Rattle.event_count.proofs.Lines.{stayed_inside}
use Rattle.event_count.proofs.Steps.{read_allows}
use Rattle.event_count.proofs.waiter.read_count.Goals as goal

pub load-requires : goal.load-requires
load-requires c = let o = c.requires.own in (o.0, omega arith, read_allows _ _ c.args.seat.now.me o.2 c.requires.inside)

pub returns-clause-inside : goal.returns-clause-inside
returns-clause-inside c = let a = c.load.ensures.2 in ap (λ (r : Role). is_inside (number_of r) c.load.new.seat.me.0.seen) a.0 ∙ (stayed_inside (number_of c.args.seat.now.me.0.role) _ _ a.1 ∙ c.requires.inside)
