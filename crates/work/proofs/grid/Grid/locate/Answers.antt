use Rattle.work.proofs.Common.{List, RingCells, ap, arith, length, ltb-false, sym, ℕ}
use Rattle.work.proofs.GridRows.{cells_long, row_found, located_says}
use Rattle.work.proofs.grid.Grid.locate.Goals as goal

pub divided-generation-requires : goal.divided-generation-requires
divided-generation-requires c = (row_found c.self.inside.rows.items c.deref.result.now c.args.req.ring c.from.result c.in_ok-row.row.now c.self.invariant.0 c.deref.ensures.value c.from.ensures c.in_ok-row.ensures.lookup.0 c.in_ok-row.ensures.lookup.1).1.some

pub returns-in_err-row-clause-none : goal.returns-in_err-row-clause-none
returns-in_err-row-clause-none c = rw c.from_residual.ensures (let a = ltb-false _ _ (sym c.in_err-row.ensures.lookup.0) in let e = ap (λ (xs : List RingCells). length xs) c.deref.ensures.value in let l = cells_long c.self.inside.rows.items in let v = ap (λ (k : List ℕ). length k) c.self.view_is in let f = c.from.ensures in omega arith)

pub overflow_add-result : goal.overflow_add-result
overflow_add-result c =
    let s = row_found c.self.inside.rows.items c.deref.result.now c.args.req.ring c.from.result c.in_ok-row.row.now c.self.invariant.0 c.deref.ensures.value c.from.ensures c.in_ok-row.ensures.lookup.0 c.in_ok-row.ensures.lookup.1 in
    let p = (located_says c.self.inside.rows.items c.args.req.ring c.args.req.k c.in_ok-row.row.now c.args.self.now c.self.view_is c.self.invariant.0 s.1).2 in omega arith

pub returns-clause-some : goal.returns-clause-some
returns-clause-some c =
    let s = row_found c.self.inside.rows.items c.deref.result.now c.args.req.ring c.from.result c.in_ok-row.row.now c.self.invariant.0 c.deref.ensures.value c.from.ensures c.in_ok-row.ensures.lookup.0 c.in_ok-row.ensures.lookup.1 in
    let p = located_says c.self.inside.rows.items c.args.req.ring c.args.req.k c.in_ok-row.row.now c.args.self.now c.self.view_is c.self.invariant.0 s.1 in let e = c.divided-generation.ensures in
    rw (e.0, e.1) (p.0, p.1, p.2)

pub returns-clause-number : goal.returns-clause-number
returns-clause-number c =
    let s = row_found c.self.inside.rows.items c.deref.result.now c.args.req.ring c.from.result c.in_ok-row.row.now c.self.invariant.0 c.deref.ensures.value c.from.ensures c.in_ok-row.ensures.lookup.0 c.in_ok-row.ensures.lookup.1 in
    let e = c.divided-generation.ensures in
    rw (e.1) (located_says c.self.inside.rows.items c.args.req.ring c.args.req.k c.in_ok-row.row.now c.args.self.now c.self.view_is c.self.invariant.0 s.1).3
