use Rattle.work.proofs.Common.{List, RingCells, ap, arith, cells_in, get_or, length, ltb-false, ltb-true, subst, sym, ℕ, ◌<◌, ◌∙◌}
use Rattle.work.proofs.GridRows.{cells_long, cells_found, cells_lost}
use Rattle.work.proofs.grid.Grid.cells_in.Goals as goal

pub returns-in-Some : goal.returns-in-Some
returns-in-Some c =
    let lt : c.args.ring < length c.self.inside.rows.items = subst (λ (xs : List RingCells). c.args.ring < length xs) c.deref.ensures.value (ltb-true _ _ (sym c.in-Some.ensures.lookup.0)) in
    ap (λ (r : RingCells). r.cells) (c.in-Some.ensures.lookup.1 ∙ ap (λ (xs : List RingCells). get_or xs c.args.ring c.in-Some.row.now) c.deref.ensures.value)
    ∙ (cells_found c.self.inside.rows.items c.args.ring c.in-Some.row.now lt ∙ ap (λ (K : List ℕ). cells_in K c.args.ring) c.self.view_is)

pub returns-in-None : goal.returns-in-None
returns-in-None c = let a = ltb-false _ _ (sym c.in-None.ensures.lookup.0) in let e = ap (λ (xs : List RingCells). length xs) c.deref.ensures.value in let l = cells_long c.self.inside.rows.items in let v = ap (λ (k : List ℕ). length k) c.self.view_is in
    sym (cells_lost c.args.self.now c.args.ring (omega arith))
