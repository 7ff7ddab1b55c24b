use Rattle.std.proofs.Common.{vec_capacity}
use Rattle.board.proofs.Common.{Fits-of_lt, IsWord, List, Reports, Shown, ap, arith, cells_in, counts_at, get_or, subst, sym, w64, ℕ, ◌*◌, ◌+◌, ◌-◌, ◌∙◌, ◌≡◌, ◌≤◌}
use Rattle.board.proofs.TakenCells.{word_at}
use Rattle.board.proofs.ReportLines.{ring_opens, ring_closes, few_rows}
use Rattle.board.proofs.report.add_ring.Goals as goal

pub age_of-age-requires : goal.age_of-age-requires
age_of-age-requires c =
    let o = c.requires.so_far in let rests = o.2.rests in let x = c.in-Some.cell.index in let inside = c.in-Some.ensures.some.0 in
    let long = rests.long in let e : c.index.result.now ≡ get_or c.args.last_cells.now.claims.items x 0 = word_at c.args.last_cells.now.claims.items x c.index.result.now c.index.ensures (omega arith) in
    subst IsWord (sym e) (rests.words x inside)

pub overflow_step-k : goal.overflow_step-k
overflow_step-k c =
    let rests = c.requires.so_far.2.rests in let few = (counts_at c.args.grid.now c.args.ring rests.cells.0 c.requires.there).1 in let small = c.age_of-age.ensures.small in
    let n : c.cells_in-cells.result ≡ cells_in c.args.grid.now c.args.ring = c.cells_in-cells.ensures ∙ ap (cells_in c.args.grid.now) c.from.ensures in let s = c.saturating_sub.ensures in
    Fits-of_lt {w = w64} {n = c.saturating_sub.result * c.cells_in-cells.result} (few_rows c.saturating_sub.result c.cells_in-cells.result (omega arith) (omega arith))

pub overflow_mul-k-end : goal.overflow_mul-k-end
overflow_mul-k-end c =
    let rests = c.requires.so_far.2.rests in let few = (counts_at c.args.grid.now c.args.ring rests.cells.0 c.requires.there).1 in let small = c.age_of-age.ensures.small in
    let n : c.cells_in-cells.result ≡ cells_in c.args.grid.now c.args.ring = c.cells_in-cells.ensures ∙ ap (cells_in c.args.grid.now) c.from.ensures in
    Fits-of_lt {w = w64} {n = (c.age_of-age.result + 1) * c.cells_in-cells.result} (few_rows (c.age_of-age.result + 1) c.cells_in-cells.result (omega arith) (omega arith))

pub loop-k-init : goal.loop-k-init
loop-k-init c = λ s j so.
    (let x = c.in-Some.cell.index in let inside = c.in-Some.ensures.some.0 in let long = so.rests.long in let K : List ℕ = c.args.grid.now in
    let e : c.index.result.now ≡ get_or c.args.last_cells.now.claims.items x 0 = word_at c.args.last_cells.now.claims.items x c.index.result.now c.index.ensures (omega arith) in
    let ages = c.age_of-age.ensures.ages K j x (subst (Shown K j x) (sym e) (so.rests.shown x inside)) in
    let n : c.cells_in-cells.result ≡ cells_in K c.args.ring = c.cells_in-cells.ensures ∙ ap (cells_in K) c.from.ensures in
    let k : (c.age_of-age.result - 2) * cells_in K c.args.ring ≡ c.saturating_sub.result * c.cells_in-cells.result = (λ i. sym c.saturating_sub.ensures i * sym n i) in
    subst (λ (z : ℕ). Reports s K j c.args.last_cells.now.claims.items c.args.last_cells.now.slots.items c.args.lines.now.items (vec_capacity c.args.lines.now) (record { ring = c.args.ring; k = z })) k
    (ring_opens s K j _ so.rests c.args.ring c.requires.there x c.in-Some.cell.generation c.age_of-age.result inside c.in-Some.ensures.some.1 ages c.args.last_cells.now.slots.items c.args.lines.now.items (vec_capacity c.args.lines.now) so))

pub add_line-requires-clause-so_far : goal.add_line-requires-clause-so_far
add_line-requires-clause-so_far c = let o = c.requires.so_far in (o.0, o.1, c.loop-k.invariant o.0 o.1 o.2)

pub loop-k-preserved : goal.loop-k-preserved
loop-k-preserved c = λ s j so. c.add_line.ensures s j (c.loop-k.invariant s j so)

pub returns : goal.returns
returns c = λ s j so.
    (let x = c.in-Some.cell.index in let inside = c.in-Some.ensures.some.0 in let long = so.rests.long in let K : List ℕ = c.args.grid.now in
    let e : c.index.result.now ≡ get_or c.args.last_cells.now.claims.items x 0 = word_at c.args.last_cells.now.claims.items x c.index.result.now c.index.ensures (omega arith) in
    let ages = c.age_of-age.ensures.ages K j x (subst (Shown K j x) (sym e) (so.rests.shown x inside)) in
    let n : c.cells_in-cells.result ≡ cells_in K c.args.ring = c.cells_in-cells.ensures ∙ ap (cells_in K) c.from.ensures in
    let k : (c.age_of-age.result + 1) * c.cells_in-cells.result ≡ (c.age_of-age.result + 1) * cells_in K c.args.ring = ap (λ (z : ℕ). (c.age_of-age.result + 1) * z) n in
    let end : (c.age_of-age.result + 1) * cells_in K c.args.ring ≤ c.loop-k.k = subst (λ (z : ℕ). z ≤ c.loop-k.k) k c.loop-k-test.false in
    let now = c.loop-k.invariant s j so in ring_closes s K j c.loop-k.last_cells.claims.items now.rests c.args.ring c.requires.there x c.in-Some.cell.generation c.age_of-age.result inside c.in-Some.ensures.some.1 ages c.loop-k.last_cells.slots.items c.loop-k.lines.items (vec_capacity c.loop-k.lines) c.loop-k.k end now)
