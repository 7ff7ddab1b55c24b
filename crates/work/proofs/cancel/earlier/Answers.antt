use Rattle.steps.proofs.CellNumbers.{ring_in}
use Rattle.work.proofs.Common.{Req, age_small, ap, arith, refl, ring_of, ◌≡◌}
use Rattle.work.proofs.CancelWalk.{in_ring}
use Rattle.work.proofs.cancel.earlier.Goals as goal

pub unreachable-requires : goal.unreachable-requires
unreachable-requires c = let r = c.requires.cell in let lt = ring_in c.args.grid.now r.0 r.3 in let is : ring_of c.args.grid.now r.0 ≡ c.args.req.ring = ap (λ (q : Req). q.ring) r.4 in let none = c.in_default.ensures.none in omega arith

pub overflow_cast-result : goal.overflow_cast-result
overflow_cast-result c = let r = c.requires.cell in let cell = c.in-Some.cell in let young = age_small c.args.grid.now r.0 cell.index r.1 cell.generation c.args.req (in_ring c.args.req.ring c.args.k) r.3 r.4 c.in-Some.ensures.some.1 refl c.requires.before r.2 in omega arith

pub returns-clause-cell : goal.returns-clause-cell
returns-clause-cell c = let r = c.requires.cell in let cell = c.in-Some.cell in let o = c.in-Some.ensures.some in (o.0, o.2, age_small c.args.grid.now r.0 cell.index r.1 cell.generation c.args.req (in_ring c.args.req.ring c.args.k) r.3 r.4 o.1 refl c.requires.before r.2)
