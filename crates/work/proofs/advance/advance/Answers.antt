use Rattle.work.proofs.Common.{ArePast, List, ap, arith, cells_in, max, some_cells, subst, sym, ℕ, ◌+◌, ◌-◌, ◌∙◌, ◌≡◌, ◌≤◌}
use Rattle.work.proofs.CancelAdvance.{fewer_less, past_max}
use Rattle.work.proofs.CancelWalk.{past_oldest}
use Rattle.work.proofs.MarksKept.{marked_set, marked_went}
use Rattle.work.proofs.advance.advance.Goals as goal

pub first_open-first-requires-clause-past : goal.first_open-first-requires-clause-past
first_open-first-requires-clause-past c = let q = c.args.req in let r = c.requires in let s = c.args.seat.now in
    subst (ArePast s.me.0.seen q.ring) (sym c.max-from.ensures)
    (past_max s.me.0.seen q.ring c.oldest.result c.of.result
    (past_oldest c.args.words.now.table_id s q r.cancels.0 c.oldest.result r.cancels.1 (c.oldest.ensures.first ∙ ap (λ (L : List ℕ). q.k - (cells_in L q.ring - 1)) (sym r.grid.cells_are)))
    (subst (ArePast s.me.0.seen q.ring) (sym c.of.ensures) (r.marked q.ring)))

pub first_open-first-requires-clause-near : goal.first_open-first-requires-clause-near
first_open-first-requires-clause-near c = let q = c.args.req in let r = c.requires in let n : ℕ = cells_in c.args.grid.now q.ring in let some = some_cells c.args.grid.now r.cell.0 r.cell.1 q r.cell.3 r.cell.4 in
    let oldest : c.oldest.result ≡ q.k - (n - 1) = c.oldest.ensures.first in let few = c.oldest.ensures.few in let from : c.max-from.result ≡ max c.oldest.result c.of.result = c.max-from.ensures in (omega arith, omega arith)

pub returns-clause-marked : goal.returns-clause-marked
returns-clause-marked c = let v = c.args.seat.now.me.0 in let w = c.first_open-first.new.seat.me.0 in let o = c.first_open-first.ensures in
    marked_set c.args.marks.now c.set.new.self c.args.req.ring c.first_open-first.result w.seen c.set.ensures o.first.past (marked_went c.args.marks.now v w o.went c.requires.marked)

pub returns-clause-steps : goal.returns-clause-steps
returns-clause-steps c = let q = c.args.req in let r = c.requires in let n : ℕ = cells_in c.args.grid.now q.ring in let o = c.first_open-first.ensures in let first = c.first_open-first.result in let some = some_cells c.args.grid.now r.cell.0 r.cell.1 q r.cell.3 r.cell.4 in
    let oldest : c.oldest.result ≡ q.k - (n - 1) = c.oldest.ensures.first in let from : c.max-from.result ≡ max c.oldest.result c.of.result = c.max-from.ensures in let low : first ≤ q.k = o.first.low in let le : first + 1 - c.max-from.result ≤ n - (q.k - first) = omega arith in
    fewer_less c.args.seat.now.me.0 c.first_open-first.new.seat.me.0 q 1 (first + 1 - c.max-from.result) (n - (q.k - first)) le o.steps
