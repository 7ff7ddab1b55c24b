use Rattle.gates.specs.EntryRows.{Stands}
use Rattle.board.proofs.Common.{added, arith, cells_in, stand_ins, subst, waiting, ℕ, ◌*◌, ◌+◌, ◌-◌, ◌∙◌, ◌≡◌, ◌≤◌}
use Rattle.board.proofs.RowLaws.{knows_restarted}
use Rattle.board.proofs.intake.catch_up.Goals as goal

pub returns-then-count-req : goal.returns-then-count-req
returns-then-count-req c = record {
  knows = let b = c.args.board.now in let q = c.args.req in let n : ℕ = cells_in b.layout.cells q.ring in let r = c.requires in let e = c.restart.ensures in let is : c.cells_in-cells.result ≡ n = c.cells_in-cells.ensures ∙ (λ i. cells_in (c.board.view_is i).layout.cells (c.from.ensures i)) in let le = c.if-cells-req.true in knows_restarted b c.args.seat.now q c.args.row.now c.restart.new.self r.ours (let f = r.numbered.few in omega arith) r.born (omega arith) r.knows (subst (λ (m : ℕ). Stands (stand_ins (q.k - m + 1)) c.restart.new.self) is e.stands) e.size e.plain;
  less = let k : ℕ = c.args.req.k in let e = c.restart.ensures in let le = c.if-cells-req.true in let lt = c.if-count-req.true in let n = c.count.ensures in let m : ℕ = added c.restart.new.self in let w : ℕ = waiting c.restart.new.self in let m' : ℕ = added c.args.row.now in let w' : ℕ = waiting c.args.row.now in let at : m ≡ k - c.cells_in-cells.result + 1 = e.count in let none : w ≡ 0 = e.none in let less : 4 * ((k + 1) - m) + 3 * w ≤ 4 * ((k + 1) - m') + 3 * w' = omega arith in less;
}
