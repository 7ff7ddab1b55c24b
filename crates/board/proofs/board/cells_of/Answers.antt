use Rattle.board.proofs.Common.{List, None, RingShape, [], ap, append-nil, append_assoc, at_drop_more, counts, drop, drop_all, sym, ℕ, ◌++◌, ◌+◌, ◌∙◌, ◌∷◌, ◌≡◌}
use Rattle.board.proofs.board.cells_of.Goals as goal

pub loop-ring-preserved : goal.loop-ring-preserved
loop-ring-preserved c =
    let i = c.loop-ring.ring-index in let rings : List RingShape = c.args.rings.now in let d : RingShape = record { cells = 0; posts = None } in let n : ℕ = c.from.result in let xs : List ℕ = c.loop-ring.cells.items in
    let more : counts (drop i rings) ≡ n ∷ counts (drop (i + 1) rings) = at_drop_more counts rings i d c.loop-ring-test.true ∙ ap (λ (z : ℕ). z ∷ counts (drop (i + 1) rings)) (sym c.from.ensures) in
    ap (λ (ys : List ℕ). ys ++ counts (drop (i + 1) rings)) c.in_ok-push.ensures.items
    ∙ (append_assoc xs (n ∷ []) (counts (drop (i + 1) rings)) ∙ (ap (λ (ys : List ℕ). xs ++ ys) (sym more) ∙ c.loop-ring.invariant))

pub returns : goal.returns
returns c = sym (append-nil c.loop-ring.cells.items) ∙ (ap (λ (xs : List ℕ). c.loop-ring.cells.items ++ xs) (sym (ap counts (drop_all c.loop-ring.ring-index c.args.rings.now c.loop-ring-test.false))) ∙ c.loop-ring.invariant)
