use Rattle.work.proofs.Common.{IsReplied, Req, arith, cells_in, events_of, inr, phase, refl, some_cells, subst, ℕ, ◌+◌, ◌-◌, ◌<◌, ◌∙◌, ◌≤◌}
use Rattle.work.proofs.CancelAdvance.{advancing_first, advancing_next}
use Rattle.work.proofs.CancelGrowth.{grown_went, went_both}
use Rattle.work.proofs.CancelWalk.{cancels_now, earlier_now, fewer_walked, target_now, walked_next}
use Rattle.work.proofs.MarksKept.{past_looked}
use Rattle.work.proofs.advance.first_open.Goals as goal

pub loop-k-init : goal.loop-k-init
loop-k-init c = ((refl, refl), refl, advancing_first c.args.seat.now.me.0 c.args.req c.args.from c.requires.past, omega arith)

pub is_open-requires : goal.is_open-requires
is_open-requires c = let table = c.args.words.now.table_id in let K = c.args.grid.now in let s = c.args.seat.now in let t = c.loop-k.seat in let q = c.args.req in let k = c.loop-k.k in let from = c.args.from in let x = c.earlier-target.result in let e = c.earlier-target.ensures in let l = c.loop-k.invariant in let r = c.requires in let lt = c.loop-k-test.true in let less : k < q.k = omega arith in let u = r.cancels.0 in let known = r.cancels.1 in
    let grown = grown_went s.me.0 t.me.0 q known.busy known.legal known.orderly l.2.went in
    record { cancels = (q, u, cancels_now table K s t q u k x known r.grid grown l.0.0 less e.cell e.at, earlier_now table K s t q u k x known r.grid grown l.0.0 less e.cell e.at) }

pub returns-then-is_open-clause-went : goal.returns-then-is_open-clause-went
returns-then-is_open-clause-went c = went_both c.args.seat.now.me.0 c.loop-k.seat.me.0 c.is_open.new.seat.me.0 c.loop-k.invariant.2.went (inr c.is_open.ensures.looks)

pub returns-then-is_open-clause-first : goal.returns-then-is_open-clause-first
returns-then-is_open-clause-first c = let q = c.args.req in let k = c.loop-k.k in let l = c.loop-k.invariant in let near = c.requires.near in let low : c.args.from ≤ k = l.2.walked.low in let n : ℕ = cells_in c.args.grid.now q.ring in record {
  low = (let lt = c.loop-k-test.true in omega arith);
  near = (let a : q.k < c.args.from + n = near.0 in omega arith);
  few = (let a = near.1 in omega arith);
  past = past_looked c.loop-k.seat.me.0 c.is_open.new.seat.me.0 q.ring k c.is_open.ensures.looks l.2.past;
}

pub returns-then-is_open-clause-steps : goal.returns-then-is_open-clause-steps
returns-then-is_open-clause-steps c = let table = c.args.words.now.table_id in let K = c.args.grid.now in let s = c.args.seat.now in let t = c.loop-k.seat in let q = c.args.req in let k = c.loop-k.k in let from = c.args.from in let x = c.earlier-target.result in let e = c.earlier-target.ensures in let l = c.loop-k.invariant in let r = c.requires in let lt = c.loop-k-test.true in let less : k < q.k = omega arith in let u = r.cancels.0 in let known = r.cancels.1 in
    let w = c.is_open.new.seat in let o = c.is_open.ensures in let low = l.2.walked.low in let walked = walked_next K s.me.0 t.me.0 w.me.0 q 1 (k - from) (k + 1 - from) from k x.cell x.generation r.grid.cells_are l.2.walked less r.near.0 e.at 1 (omega arith) o.steps in
    fewer_walked 1 (k + 1 - from) (k + 1 - from) s.me.0 w.me.0 q from (k + 1) (omega arith) (omega arith) walked

pub loop-k-preserved : goal.loop-k-preserved
loop-k-preserved c = let table = c.args.words.now.table_id in let K = c.args.grid.now in let s = c.args.seat.now in let t = c.loop-k.seat in let q = c.args.req in let k = c.loop-k.k in let from = c.args.from in let x = c.earlier-target.result in let e = c.earlier-target.ensures in let l = c.loop-k.invariant in let r = c.requires in let lt = c.loop-k-test.true in let less : k < q.k = omega arith in let u = r.cancels.0 in let known = r.cancels.1 in
    let w = c.is_open.new.seat in let o = c.is_open.ensures in let low = l.2.walked.low in let walked = walked_next K s.me.0 t.me.0 w.me.0 q 1 (k - from) (k + 1 - from) from k x.cell x.generation r.grid.cells_are l.2.walked less r.near.0 e.at 1 (omega arith) o.steps in
    let grown = grown_went s.me.0 t.me.0 q known.busy known.legal known.orderly l.2.went in
    let done = subst (λ (z : Req). IsReplied (phase (events_of w.me.0.seen) z)) (target_now table K s t q u k x known r.grid grown l.0.0 less e.cell e.at) (o.replied c.if-is_open.false) in
    ((o.seat.0.0 ∙ l.0.0, o.seat.0.1 ∙ l.0.1), o.seat.1 ∙ l.1, advancing_next s.me.0 t.me.0 w.me.0 q from k l.2 walked o.looks done, omega arith)

pub returns-clause-went : goal.returns-clause-went
returns-clause-went c = c.loop-k.invariant.2.went

pub returns-clause-first : goal.returns-clause-first
returns-clause-first c = let q = c.args.req in let r = c.requires in let some = some_cells c.args.grid.now r.cell.0 r.cell.1 q r.cell.3 r.cell.4 in let n : ℕ = cells_in c.args.grid.now q.ring in record {
  low = omega arith;
  near = (let z = some in omega arith);
  few = omega arith;
  past = λ m lt. c.loop-k.invariant.2.past m (let end = c.loop-k-test.false in let lt' : m < q.k = lt in omega arith);
}

pub returns-clause-steps : goal.returns-clause-steps
returns-clause-steps c = let l = c.loop-k.invariant in let high = l.3 in fewer_walked 1 (c.loop-k.k - c.args.from) (c.args.req.k + 1 - c.args.from) c.args.seat.now.me.0 c.loop-k.seat.me.0 c.args.req c.args.from c.loop-k.k (omega arith) (omega arith) l.2.walked
