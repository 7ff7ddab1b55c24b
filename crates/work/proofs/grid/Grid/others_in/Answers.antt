use Rattle.work.proofs.Common.{List, RingCells, ap, arith, cells_in, length, ltb-false, refl, sym, ℕ, ◌-◌, ◌∙◌, ◌≡◌}
use Rattle.work.proofs.GridRows.{cells_long, cells_lost, row_found}
use Rattle.work.proofs.grid.Grid.others_in.Goals as goal

pub overflow_sub-result : goal.overflow_sub-result
overflow_sub-result c = let s = (row_found c.self.inside.rows.items c.deref.result.now c.args.ring c.args.ring c.in-Some.row.now c.self.invariant.0 c.deref.ensures.value refl c.in-Some.ensures.lookup.0 c.in-Some.ensures.lookup.1).1 in let some = s.some in omega arith

pub returns-clause-others : goal.returns-clause-others
returns-clause-others c = let s = (row_found c.self.inside.rows.items c.deref.result.now c.args.ring c.args.ring c.in-Some.row.now c.self.invariant.0 c.deref.ensures.value refl c.in-Some.ensures.lookup.0 c.in-Some.ensures.lookup.1).1 in
    ap (λ (n : ℕ). n - 1) (s.cells ∙ ap (λ (K : List ℕ). cells_in K c.args.ring) c.self.view_is)

pub returns-clause-few : goal.returns-clause-few
returns-clause-few c = let s = (row_found c.self.inside.rows.items c.deref.result.now c.args.ring c.args.ring c.in-Some.row.now c.self.invariant.0 c.deref.ensures.value refl c.in-Some.ensures.lookup.0 c.in-Some.ensures.lookup.1).1 in let few = s.few in omega arith

pub returns-in_default-clause-others : goal.returns-in_default-clause-others
returns-in_default-clause-others c = let a = ltb-false _ _ (sym c.in_default.ensures.lookup.0) in let e = ap (λ (xs : List RingCells). length xs) c.deref.ensures.value in let l = cells_long c.self.inside.rows.items in let v = ap (λ (k : List ℕ). length k) c.self.view_is in
    let none : cells_in c.args.self.now c.args.ring ≡ 0 = cells_lost c.args.self.now c.args.ring (omega arith) in omega arith
