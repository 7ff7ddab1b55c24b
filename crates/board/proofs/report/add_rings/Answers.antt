use Rattle.std.proofs.Common.{vec_capacity}
use Rattle.board.proofs.Common.{Reports, arith, length, subst, ℕ, ◌≡◌}
use Rattle.board.proofs.report.add_rings.Goals as goal

pub add_ring-requires-clause-so_far : goal.add_ring-requires-clause-so_far
add_ring-requires-clause-so_far c = let o = c.requires.so_far in (o.0, o.1, c.loop-ring.invariant o.0 o.1 o.2)

pub loop-ring-preserved : goal.loop-ring-preserved
loop-ring-preserved c = λ s j so. c.add_ring.ensures s j (c.loop-ring.invariant s j so)

pub returns : goal.returns
returns c = λ s j so.
    (let a = c.loop-ring-test.false in let b = c.loop-ring.auto.ring-end in let l = c.rings-ring-end.ensures in let e : c.loop-ring.ring ≡ length c.args.grid.now = omega arith in
    subst (λ (z : ℕ). Reports s c.args.grid.now j c.loop-ring.last_cells.claims.items c.loop-ring.last_cells.slots.items c.loop-ring.lines.items (vec_capacity c.loop-ring.lines) (record { ring = z; k = 0 })) e (c.loop-ring.invariant s j so))
