use Rattle.board.proofs.Common.{Gating, Paid, ap, arith, costs_of, looks_of, owed_back, spared_by, waiting, ℕ, ◌*◌, ◌+◌, ◌≡◌, ◌≤◌}
use Rattle.board.proofs.RowLaws.{submitted_on}
use Rattle.board.proofs.Watching.{born_on, watched_then, gated_found, unended_before, unended_after, paid_on, paid_with}
use Rattle.board.proofs.gating.gate.Goals as goal

pub advance-requires-clause-here : goal.advance-requires-clause-here
advance-requires-clause-here c = submitted_on c.args.board.now c.args.seat.now c.loop-gating.seat c.args.cell.index c.args.cell.generation c.args.req c.loop-gating.invariant.watched c.requires.here

costs_bound : (x : Gating) → costs_of x + spared_by x ≤ looks_of x + 2
costs_bound Gating.Shut = omega arith
costs_bound Gating.Severed = omega arith
costs_bound Gating.Open = omega arith
costs_bound Gating.Linked = omega arith
costs_bound Gating.Lost = omega arith

pub returns-in-Decided : goal.returns-in-Decided
returns-in-Decided c =
    let b = c.args.board.now in let q = c.args.req in let i = c.loop-gating.invariant in let e = c.in-Decided.ensures in let s = c.args.seat.now in let m = c.loop-gating.seat in let t = c.advance.new.seat in let x = c.in-Decided.gating in
    let w : ℕ = waiting c.args.row.now in let p = i.paid in let few = p.2 in let bound = costs_bound x in let more = e.2 in
    let less : Paid s.me.0 m.me.0 (costs_of x + spared_by x) (3 * w + looks_of x) = (p.0, p.1, omega (arith, few, bound, more)) in
    (gated_found b q s m t _ _ _ _ c.advance.new.row c.loop-gating.looked x (born_on b s m q.ring q.k i.watched c.requires.here.born) i.watched i.paid e.1 i.looked e.0, paid_on s.me.0 m.me.0 t.me.0 (3 * w + looks_of x) (costs_of x + spared_by x) (spared_by x) less (paid_with m.me.0 t.me.0 (costs_of x) 0 (costs_of x + spared_by x) (spared_by x) e.1 (spared_by x) (omega arith) (omega arith)))

pub loop-gating-preserved-in-Passed : goal.loop-gating-preserved-in-Passed
loop-gating-preserved-in-Passed c =
    let b = c.args.board.now in let i = c.loop-gating.invariant in let e = c.in-Passed.ensures in let s = c.args.seat.now in let m = c.loop-gating.seat in let t = c.advance.new.seat in
    let v : ℕ = waiting c.loop-gating.row in let u : ℕ = waiting c.advance.new.row in let o : ℕ = owed_back c.loop-gating.looked in record {
      watched = watched_then b s m t i.watched e.0;
      watches = e.1;
      paid = paid_on s.me.0 m.me.0 t.me.0 _ (3 * v + o) _ i.paid (paid_with m.me.0 t.me.0 (3 * v) (3 * u) (3 * v + o) (3 * u + o) e.3 o (omega arith) (omega arith));
      looked = λ is. unended_before b c.args.req s m t _ _ (born_on b s m c.args.req.ring c.args.req.k i.watched c.requires.here.born) (i.looked is) e.0 e.3;
    }

pub loop-gating-preserved : goal.loop-gating-preserved
loop-gating-preserved c =
    let b = c.args.board.now in let i = c.loop-gating.invariant in let e = c.in-Looked.ensures in let s = c.args.seat.now in let m = c.loop-gating.seat in let t = c.advance.new.seat in
    let v : ℕ = waiting c.loop-gating.row in let u : ℕ = waiting c.advance.new.row in let o : ℕ = owed_back c.loop-gating.looked in let same : u ≡ v = ap waiting e.2 in let one : o ≡ 1 = ap owed_back e.3 in record {
      watched = watched_then b s m t i.watched e.0;
      watches = e.1;
      paid = paid_on s.me.0 m.me.0 t.me.0 _ (3 * v + o) _ i.paid (paid_with m.me.0 t.me.0 1 0 (3 * v + o) (3 * u + 0) e.5 (3 * v) (omega (arith, one)) (omega (arith, same)));
      looked = λ _. unended_after b.layout.cells c.args.req s m t _ _ i.paid e.4;
    }
