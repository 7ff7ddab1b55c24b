use Rattle.board.proofs.Common.{[], added, arith, events_of, owed, pass_of, severed_by, submits, waiting, ℕ, ◌*◌, ◌+◌, ◌<◌, ◌≤◌}
use Rattle.board.proofs.RowLaws.{knows_on, few_wait, few_added, owed_bound, held_born, held_here, watches_held, submits_goes}
use Rattle.board.proofs.Watching.{still_ours, decides_after, paid_most, paid_add}
use Rattle.board.proofs.release.release.Goals as goal

pub returns-then-not-is_held-clause-knows : goal.returns-then-not-is_held-clause-knows
returns-then-not-is_held-clause-knows c = knows_on c.args.board.now c.args.seat.now c.is_held.new.seat c.is_held.ensures.watched c.args.board.now.layout.cells c.args.req.ring c.args.row.now c.requires.knows

pub decide-requires : goal.decide-requires
decide-requires c = let b = c.args.board.now in let s = c.args.seat.now in let t = c.is_held.new.seat in let q = c.args.req in let row = c.args.row.now in let e = c.is_held.ensures in record { here = held_here b t c.args.cell.index c.args.cell.generation q (still_ours b s t e.watched) c.requires.at (e.held c.if-not-is_held.false).1 (e.held c.if-not-is_held.false).0; watches = watches_held b.layout.cells t.me.0.seen q row (e.held c.if-not-is_held.false).0 (let lt = c.if-req-count.true in let n = c.count.ensures in omega arith) (knows_on b s t e.watched b.layout.cells q.ring row c.requires.knows) }

pub release_by_row-requires : goal.release_by_row-requires
release_by_row-requires c = let b = c.args.board.now in let s = c.args.seat.now in let t = c.is_held.new.seat in let q = c.args.req in let row = c.args.row.now in let e = c.is_held.ensures in record { here = held_here b t c.args.cell.index c.args.cell.generation q (still_ours b s t e.watched) c.requires.at (e.held c.if-not-is_held.false).1 (e.held c.if-not-is_held.false).0; knows = knows_on b s t e.watched b.layout.cells q.ring row c.requires.knows }

pub release_next-requires-clause-here : goal.release_next-requires-clause-here
release_next-requires-clause-here c =
    let b = c.args.board.now in let s = c.args.seat.now in let t = c.is_held.new.seat in let q = c.args.req in let row = c.args.row.now in let e = c.is_held.ensures in
    held_here b t c.args.cell.index c.args.cell.generation q (still_ours b s t e.watched) c.requires.at (e.held c.if-not-is_held.false).1 (e.held c.if-not-is_held.false).0

pub release_next-requires-clause-knows : goal.release_next-requires-clause-knows
release_next-requires-clause-knows c =
    let b = c.args.board.now in let s = c.args.seat.now in let t = c.is_held.new.seat in let q = c.args.req in let row = c.args.row.now in let e = c.is_held.ensures in
    knows_on b s t e.watched b.layout.cells q.ring row c.requires.knows

pub returns-then-req-count-clause-decides : goal.returns-then-req-count-clause-decides
returns-then-req-count-clause-decides c =
    let b = c.args.board.now in let s = c.args.seat.now in let t = c.is_held.new.seat in let q = c.args.req in let row = c.args.row.now in let e = c.is_held.ensures in
    decides_after b q s t c.decide.new.seat 0 1 c.decide.result e.watched e.steps c.decide.ensures.decides

pub returns-then-req-count-clause-steps : goal.returns-then-req-count-clause-steps
returns-then-req-count-clause-steps c =
    let b = c.args.board.now in let s = c.args.seat.now in let t = c.is_held.new.seat in let q = c.args.req in let row = c.args.row.now in let e = c.is_held.ensures in
    let u = c.decide.new.seat in let d = c.decide.ensures in let w : ℕ = waiting row in let old : ℕ = owed row (q.k + 1) in
    let n : ℕ = submits (events_of s.me.0.seen) q.ring in let m : ℕ = submits (events_of t.me.0.seen) q.ring in let z : ℕ = submits (events_of u.me.0.seen) q.ring in
    let g : n ≤ m = submits_goes b (pass_of s) (pass_of t) [] q.ring e.watched.goes in let h : m ≤ z = submits_goes b (pass_of t) (pass_of u) (severed_by c.decide.result q) q.ring d.decides.goes in
    let few : added row ≤ n = few_added b s b.layout.cells q.ring row c.requires.ours c.requires.knows in let some : w ≤ added row = few_wait b.layout.cells s.me.0.seen q.ring row c.requires.knows in
    paid_most s.me.0 u.me.0 (1 + (3 * w + 1)) (4 * z + 4) (paid_add s.me.0 t.me.0 u.me.0 1 (3 * w + 1) e.steps d.steps) (omega arith)

pub returns-then-plain-req-clause-decides : goal.returns-then-plain-req-clause-decides
returns-then-plain-req-clause-decides c =
    let b = c.args.board.now in let s = c.args.seat.now in let t = c.is_held.new.seat in let q = c.args.req in let row = c.args.row.now in let e = c.is_held.ensures in
    decides_after b q s t c.release_by_row.new.seat 0 1 c.release_by_row.result e.watched e.steps c.release_by_row.ensures.decides

pub returns-then-plain-req-clause-steps : goal.returns-then-plain-req-clause-steps
returns-then-plain-req-clause-steps c =
    let b = c.args.board.now in let s = c.args.seat.now in let t = c.is_held.new.seat in let q = c.args.req in let row = c.args.row.now in let e = c.is_held.ensures in
    let u = c.release_by_row.new.seat in let d = c.release_by_row.ensures in let w : ℕ = waiting row in let old : ℕ = owed row (q.k + 1) in
    let n : ℕ = submits (events_of s.me.0.seen) q.ring in let m : ℕ = submits (events_of t.me.0.seen) q.ring in let z : ℕ = submits (events_of u.me.0.seen) q.ring in
    let g : n ≤ m = submits_goes b (pass_of s) (pass_of t) [] q.ring e.watched.goes in let h : m ≤ z = submits_goes b (pass_of t) (pass_of u) (severed_by c.release_by_row.result q) q.ring d.decides.goes in
    let few : added row ≤ n = few_added b s b.layout.cells q.ring row c.requires.ours c.requires.knows in let some : w ≤ added row = few_wait b.layout.cells s.me.0.seen q.ring row c.requires.knows in
    let born : q.k < m = held_born b t q (still_ours b s t e.watched) (e.held c.if-not-is_held.false).0 in let most : old ≤ 4 * z = owed_bound row q.k z some (omega arith) (omega arith) in
    paid_most s.me.0 u.me.0 (1 + (old + 2)) (4 * z + 4) (paid_add s.me.0 t.me.0 u.me.0 1 (old + 2) e.steps d.steps) (omega arith)

pub returns-clause-decides : goal.returns-clause-decides
returns-clause-decides c =
    let b = c.args.board.now in let s = c.args.seat.now in let t = c.is_held.new.seat in let q = c.args.req in let row = c.args.row.now in let e = c.is_held.ensures in
    decides_after b q s t c.release_next.new.seat 0 1 c.release_next.result e.watched e.steps c.release_next.ensures.decides

pub returns-clause-steps : goal.returns-clause-steps
returns-clause-steps c =
    let b = c.args.board.now in let s = c.args.seat.now in let t = c.is_held.new.seat in let q = c.args.req in let row = c.args.row.now in let e = c.is_held.ensures in
    let u = c.release_next.new.seat in let d = c.release_next.ensures in let w : ℕ = waiting row in let old : ℕ = owed row (q.k + 1) in
    let n : ℕ = submits (events_of s.me.0.seen) q.ring in let m : ℕ = submits (events_of t.me.0.seen) q.ring in let z : ℕ = submits (events_of u.me.0.seen) q.ring in
    let g : n ≤ m = submits_goes b (pass_of s) (pass_of t) [] q.ring e.watched.goes in let h : m ≤ z = submits_goes b (pass_of t) (pass_of u) (severed_by c.release_next.result q) q.ring d.decides.goes in
    let few : added row ≤ n = few_added b s b.layout.cells q.ring row c.requires.ours c.requires.knows in let some : w ≤ added row = few_wait b.layout.cells s.me.0.seen q.ring row c.requires.knows in
    let born : q.k < m = held_born b t q (still_ours b s t e.watched) (e.held c.if-not-is_held.false).0 in let most : old ≤ 4 * z = owed_bound row q.k z some (omega arith) (omega arith) in
    paid_most s.me.0 u.me.0 (1 + (old + 3)) (4 * z + 4) (paid_add s.me.0 t.me.0 u.me.0 1 (old + 3) e.steps d.steps) (omega arith)
