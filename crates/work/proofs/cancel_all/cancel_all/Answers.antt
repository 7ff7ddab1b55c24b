use Rattle.work.proofs.Common.{DidTry, Req, arith, cells_in, refl, subst, sym, vec_capacity, ℕ, ◌*◌, ◌+◌, ◌-◌, ◌<◌, ◌∙◌, ◌≡◌, ◌≤◌}
use Rattle.work.proofs.CancelWalk.{cancels_now, earlier_now, few_walked, in_ring, target_now, walked_next}
use Rattle.work.proofs.CancelAll.{Canceling, canceling_aims, canceling_grown, canceling_first, canceling_on, canceling_took, canceled}
use Rattle.work.proofs.cancel_all.cancel_all.Goals as goal
use Rattle.work.proofs.cancel_all.cancel_all.Goals.{in-Took, in-Passed}

pub loop-k-init : goal.loop-k-init
loop-k-init c = let r = c.requires in let v = c.args.seat.now.me.0 in let first = c.args.first in ((refl, refl), refl, omega arith, subst (Canceling v v c.args.task.now.req first first) (sym r.spare.0) (canceling_first v c.args.task.now.req first r.first.past))

pub try_one-requires : goal.try_one-requires
try_one-requires c = let table = c.args.task.now.words.now.table_id in let K = c.args.task.now.grid.now in let s = c.args.seat.now in let t = c.loop-k.seat in let q = c.args.task.now.req in let u = c.args.wanted in let k = c.loop-k.k in let x = c.earlier-target.result in let e = c.earlier-target.ensures in let l = c.loop-k.invariant in let r = c.requires in let lt = c.loop-k-test.true in let less : k < q.k = omega arith in
    let first = c.args.first in let grown = canceling_grown table s t q u first k c.loop-k.took.items r.cancels.0 l.3 in
    record { cancels = (q, cancels_now table K s t q u k x r.cancels.0 r.grid grown l.0.0 less e.cell e.at, earlier_now table K s t q u k x r.cancels.0 r.grid grown l.0.0 less e.cell e.at, canceling_aims table s t q u first k c.loop-k.took.items r.cancels.0 l.3 r.cancels.1 r.cancels.2 _ (target_now table K s t q u k x r.cancels.0 r.grid grown l.0.0 less e.cell e.at)) }

pub note-requires : goal.note-requires
note-requires c = let K = c.args.task.now.grid.now in let q = c.args.task.now.req in let k = c.loop-k.k in let l = c.loop-k.invariant in let r = c.requires in let lt = c.loop-k-test.true in let less : k < q.k = omega arith in let n : ℕ = cells_in K q.ring in
    let near : q.k < c.args.first + n = r.first.near in let short = l.3.short in let room = r.spare.1 q.ring in let more = l.2 in record { room = omega arith }

pub loop-k-preserved : goal.loop-k-preserved
loop-k-preserved c = let table = c.args.task.now.words.now.table_id in let K = c.args.task.now.grid.now in let s = c.args.seat.now in let t = c.loop-k.seat in let w = c.try_one.new.seat in let q = c.args.task.now.req in let u = c.args.wanted in let k = c.loop-k.k in let x = c.earlier-target.result in let e = c.earlier-target.ensures in let l = c.loop-k.invariant in let r = c.requires in let lt = c.loop-k-test.true in let less : k < q.k = omega arith in
    let first = c.args.first in let list = c.loop-k.took.items in let grown = canceling_grown table s t q u first k list r.cancels.0 l.3 in let known = cancels_now table K s t q u k x r.cancels.0 r.grid grown l.0.0 less e.cell e.at in
    let low : first ≤ k = l.3.walked.low in let o = c.try_one.ensures.seat in
    let walked = walked_next K s.me.0 t.me.0 w.me.0 q 3 (5 * (k - first)) (5 * (k + 1 - first)) first k x.cell x.generation r.grid.cells_are l.3.walked less r.first.near e.at 5 (omega arith) c.try_one.ensures.steps in
    let d = subst (λ (z : Req). DidTry t.me.0 w.me.0 q z c.try_one.result) (target_now table K s t q u k x r.cancels.0 r.grid grown l.0.0 less e.cell e.at) (c.try_one.ensures.tried q known) in
    let next : (vec_capacity c.args.took.now ≤ vec_capacity c.match-try_one.took) × Canceling s.me.0 w.me.0 q first (k + 1) c.match-try_one.took.items = elim c.match-try_one.branch [
      | in-Took b ↦ subst (λ (v : _). (vec_capacity c.args.took.now ≤ vec_capacity v) × Canceling s.me.0 w.me.0 q first (k + 1) v.items) (sym b.took-is)
          ((let a = l.2 in let m = b.note.ensures.capacity in omega arith), subst (Canceling s.me.0 w.me.0 q first (k + 1)) (sym b.note.ensures.items) (canceling_took table s t w.me.0 q u first k list known l.3 walked (subst (DidTry t.me.0 w.me.0 q (in_ring q.ring k)) b.in-Took.is d)))
      | in-Passed b ↦ subst (λ (v : _). (vec_capacity c.args.took.now ≤ vec_capacity v) × Canceling s.me.0 w.me.0 q first (k + 1) v.items) (sym b.took-is) (l.2, canceling_on table s t w.me.0 q u first k list known l.3 walked c.try_one.result b.in-Passed.is d)
    ] in
    ((o.0.0 ∙ l.0.0, o.0.1 ∙ l.0.1), o.1 ∙ l.1, next.0, next.1)

pub returns-clause-canceled : goal.returns-clause-canceled
returns-clause-canceled c = let q = c.args.task.now.req in let low = c.requires.first.low in let end : c.loop-k.k ≡ q.k = (let lt = c.loop-k-test.false in let l = c.loop-k.auto.k-end in omega arith) in
    canceled c.args.seat.now.me.0 c.loop-k.seat.me.0 q c.args.first c.loop-k.took.items (subst (λ (k : ℕ). Canceling c.args.seat.now.me.0 c.loop-k.seat.me.0 q c.args.first k c.loop-k.took.items) end c.loop-k.invariant.3)

pub returns-clause-steps : goal.returns-clause-steps
returns-clause-steps c = let q = c.args.task.now.req in let k = c.loop-k.k in let first = c.args.first in let low : first ≤ q.k = c.requires.first.low in let end : k ≤ q.k = (let l = c.loop-k.auto.k-end in omega arith) in
    few_walked 3 (5 * (k - first)) (5 * (q.k - first)) c.args.seat.now.me.0 c.loop-k.seat.me.0 q first k (omega arith) c.loop-k.invariant.3.walked

pub returns-clause-few : goal.returns-clause-few
returns-clause-few c = let q = c.args.task.now.req in let r = c.requires in let n : ℕ = cells_in c.args.task.now.grid.now q.ring in let low : c.args.first ≤ q.k = r.first.low in let end : c.loop-k.k ≤ q.k = (let l = c.loop-k.auto.k-end in omega arith) in
    let near : q.k < c.args.first + n = r.first.near in let few = r.first.few in let short = c.loop-k.invariant.3.short in (omega arith, omega arith)
