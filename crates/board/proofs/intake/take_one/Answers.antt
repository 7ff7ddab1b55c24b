use Rattle.gates.specs.Shows.{nth}
use Rattle.board.proofs.Common.{IsChainDone, IsOfChain, added, arith, cells_in, events_of, false, subst, ℕ, ◌-◌, ◌<◌, ◌≤◌}
use Rattle.board.proofs.RowLaws.{way_done, knows_replied, chain_outcome}
use Rattle.board.proofs.intake.take_one.Goals as goal

pub replied-requires : goal.replied-requires
replied-requires c = let k = c.requires.knows in (c.in_the_way.ensures.named k.slots k.stands c.in-Some.first c.in-Some.is).cell

pub returns-in-Some-clause-knows : goal.returns-in-Some-clause-knows
returns-in-Some-clause-knows c =
    let k = c.requires.knows in let b = c.args.board.now in let s = c.args.seat.now in let i = c.args.req.ring in let row = c.args.row.now in let h = events_of s.me.0.seen in let p = c.in-Some.first in
    let t = c.in_the_way.ensures.trailed h i k.slots k.stands k.trails p c.in-Some.is in let n : ℕ = added row in
    let cells : 0 < cells_in b.layout.cells i = (let f = c.requires.numbered.few in omega arith) in
    let le = c.requires.lacks in let born = c.requires.born in
    let done : IsChainDone h (nth i p) = way_done b s i n p c.requires.ours cells (omega arith) (subst (λ (z : ℕ). z ≤ n) k.size t.0) (subst (λ (z : ℕ). IsOfChain h (nth i p) (nth i (n - z))) k.size t.1) in
    knows_replied b.layout.cells s.me.0.seen i p row c.replied.new.self false k (λ xs st. c.in_the_way.ensures.named xs st p c.in-Some.is) (chain_outcome h (nth i p) done) c.replied.ensures.replied c.replied.ensures.size c.replied.ensures.plain
