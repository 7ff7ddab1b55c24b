use Rattle.board.proofs.Common.{Fits-of_lt, Kept, KnowsRow, List, [], ap, arith, counts_at, length, length-append, subst, sym, w32, ℕ, ◌++◌, ◌+◌, ◌∙◌, ◌∷◌, ◌≡◌}
use Rattle.board.proofs.RowsKept.{rows_more, new_row}
use Rattle.board.proofs.board.rows_of.Goals as goal

pub overflow_cast-cells_in : goal.overflow_cast-cells_in
overflow_cast-cells_in c = let lt = c.loop-ring-test.true in let n = c.rings-ring-end.ensures in let m = (counts_at c.args.grid.now c.loop-ring.ring c.requires.0 (omega arith)).1 in let e = c.cells_in.ensures in Fits-of_lt {w = w32} {n = c.cells_in.result} (omega arith)

pub new-requires-clause-least : goal.new-requires-clause-least
new-requires-clause-least c = let lt = c.loop-ring-test.true in let n = c.rings-ring-end.ensures in let m = (counts_at c.args.grid.now c.loop-ring.ring c.requires.0 (omega arith)).0 in let e = c.cells_in.ensures in omega arith

pub new-requires-clause-most : goal.new-requires-clause-most
new-requires-clause-most c = let lt = c.loop-ring-test.true in let n = c.rings-ring-end.ensures in let m = (counts_at c.args.grid.now c.loop-ring.ring c.requires.0 (omega arith)).1 in let e = c.cells_in.ensures in omega arith

pub loop-ring-preserved : goal.loop-ring-preserved
loop-ring-preserved c =
    let i = c.loop-ring.invariant in let K : List ℕ = c.args.grid.now in let rows : List Kept = c.loop-ring.rows.items in let row : Kept = c.in-Ok.row in let e = c.in-Ok.ensures in let p : c.push.new.self.items ≡ rows ++ row ∷ [] = c.in_ok-push.ensures.items in record {
      count = ap (λ (l : List Kept). length l) p ∙ (length-append rows (row ∷ []) ∙ ap (λ (n : ℕ). n + 1) i.count);
      each = rows_more K rows c.push.new.self.items row i.each (subst (λ (n : ℕ). KnowsRow K [] n row) (sym i.count) (new_row K c.loop-ring.ring row (e.size ∙ c.cells_in.ensures) e.empty e.plain)) p;
    }
