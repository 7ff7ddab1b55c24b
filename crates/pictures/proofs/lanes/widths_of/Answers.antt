use Rattle.pictures.proofs.Common.{[], ap, ap₂, arith, length, map, max, shown, sym, width_of, widths_from, ℕ, ◌+◌, ◌∙◌, ◌∷◌, ◌≡◌}
use Rattle.pictures.proofs.Turns.{counts}
use Rattle.pictures.proofs.lanes.widths_of.Goals as goal

pub loop-column-preserved : goal.loop-column-preserved
loop-column-preserved c =
    let rings = c.args.columns.now.rings in let workers = c.args.columns.now.workers in let ms = map shown c.args.marks.now in
    let le = c.loop-column-test.true in let end = c.last-column-end.ensures in
    let name = c.in_ok-name.ensures in let long = c.longest.ensures in let most = c.max.ensures in
    let wide : c.max.result ≡ width_of rings workers ms c.loop-column.column = most ∙ ap₂ max (ap length (c.as_bytes.ensures.value ∙ name)) long in
    counts (widths_from rings workers ms) (rings + workers + 2 + 1) c.loop-column.column _ _ (c.max.result ∷ []) _ (omega arith) (λ k. ap (λ (n : ℕ). n ∷ widths_from rings workers ms (c.loop-column.column + 1) k) (sym wide)) c.loop-column.invariant c.in_ok-push.ensures.items
