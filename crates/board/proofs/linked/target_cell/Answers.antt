use Rattle.history.proofs.StateWords.{no_ring}
use Rattle.board.proofs.Common.{Facts, age_small, arith, length, previous, refl, request_at, setup_of, subst, ◌-◌, ◌<◌, ◌≡◌, ◌≤◌}
use Rattle.board.proofs.Settlings.{link_later}
use Rattle.board.proofs.linked.target_cell.Goals as goal

pub unreachable-requires : goal.unreachable-requires
unreachable-requires c = let l = c.requires.linked in let le : length c.args.board.now.layout.cells ≤ c.args.req.ring = subst (λ (b : Facts). length b.layout.cells ≤ c.args.req.ring) c.board.view_is c.in_default.ensures.none in
    let n = no_ring (setup_of c.args.board.now.layout) l.0 c.args.req.ring l.1 le in let born = l.2 in omega arith

pub returns-clause-small : goal.returns-clause-small
returns-clause-small c = let l = c.requires.linked in let r = c.requires.at in let o = c.in-Some.ensures.some in let later = link_later l.0 c.args.req l.3 in let K = c.args.board.now.layout.cells in
    let is : request_at K c.in-Some.found.index c.in-Some.found.generation ≡ previous c.args.req = subst (λ (b : Facts). request_at b.layout.cells c.in-Some.found.index c.in-Some.found.generation ≡ previous c.args.req) c.board.view_is o.1 in
    age_small K c.args.cell.index c.in-Some.found.index c.args.cell.generation c.in-Some.found.generation c.args.req (previous c.args.req) r.inside.0 r.at is refl (let z : c.args.req.k - 1 < c.args.req.k = omega arith in z) c.requires.small
