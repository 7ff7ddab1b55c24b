use Rattle.board.proofs.Common.{List, None, RingShape, ap, arith, counts, drop, drop_all, get_or, max, widest, ℕ, ◌+◌, ◌≡◌}
use Rattle.board.proofs.ShapeBounds.{widest_at}
use Rattle.board.proofs.board.widest_of.Goals as goal

pub loop-ring-preserved : goal.loop-ring-preserved
loop-ring-preserved c =
    let i : ℕ = c.loop-ring.ring-index in let rings : List RingShape = c.args.rings.now in let d : RingShape = record { cells = 0; posts = None } in
    let at : widest (counts (drop i rings)) ≡ max (get_or rings i d).cells (widest (counts (drop (i + 1) rings))) = widest_at rings i d c.loop-ring-test.true in
    let most : c.max-most.result ≡ max c.loop-ring.most (get_or rings i d).cells = c.max-most.ensures in let before = c.loop-ring.invariant in omega arith

pub returns : goal.returns
returns c =
    let left : List RingShape = drop c.loop-ring.ring-index c.args.rings.now in
    let none : widest (counts left) ≡ 0 = ap (λ (rings : List RingShape). widest (counts rings)) (drop_all c.loop-ring.ring-index c.args.rings.now c.loop-ring-test.false) in
    let all = c.loop-ring.invariant in omega arith
