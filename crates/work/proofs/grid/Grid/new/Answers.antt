use Rattle.work.proofs.Common.{List, RingCells, RowsFrom, [], ap, arith, cells_of, get_or, subst, sym, take, take_more, total, ℕ, ◌++◌, ◌+◌, ◌∙◌, ◌∷◌, ◌≡◌}
use Rattle.work.proofs.GridRows.{cells_more, total_more, rows_more, counts_at, total_at}
use Rattle.work.proofs.grid.Grid.new.Goals as goal

pub overflow_add-first : goal.overflow_add-first
overflow_add-first c =
    let K : List ℕ = c.args.cells.now in let i : ℕ = c.loop-cells.cells-index in let lt = c.loop-cells-test.true in let a = total_at K i lt in let v = c.loop-cells.invariant in
    let at : c.loop-cells.first ≡ total (take i K) = v.2 ∙ ap total v.0 in let q = c.requires.1 in omega arith

pub loop-cells-preserved : goal.loop-cells-preserved
loop-cells-preserved c =
    let K : List ℕ = c.args.cells.now in let i : ℕ = c.loop-cells.cells-index in let lt = c.loop-cells-test.true in let a = total_at K i lt in let v = c.loop-cells.invariant in
    let rows : List RingCells = c.loop-cells.rows.items in let r : RingCells = record { first = c.loop-cells.first; cells = get_or K i 0 } in let q = c.requires.1 in
    let at : c.loop-cells.first ≡ total (take i K) = v.2 ∙ ap total v.0 in let n = counts_at K i c.requires.0 lt in
    let items : c.push.new.self.items ≡ rows ++ r ∷ [] = c.in_ok-push.ensures.items in (
      ap cells_of items ∙ (cells_more rows r ∙ (ap (λ (xs : List ℕ). xs ++ get_or K i 0 ∷ []) v.0 ∙ sym (take_more K i 0 lt))),
      subst (λ (xs : List RingCells). RowsFrom 0 xs) (sym items) (rows_more 0 rows r v.1 (let f = v.2 in omega arith) n.0 n.1 (omega arith)),
      sym (ap (λ (xs : List RingCells). total (cells_of xs)) items ∙ (ap total (cells_more rows r) ∙ (total_more (cells_of rows) (get_or K i 0) ∙ (let f = v.2 in ap (λ (z : ℕ). z + get_or K i 0) (sym f))))),
    )
