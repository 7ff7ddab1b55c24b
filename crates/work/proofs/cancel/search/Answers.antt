use Rattle.work.proofs.Common.{Busy, Did, DidTry, Extends, List, Miss, Passed, Req, Take, arith, cells_in, refl, subst, sym, ℕ, ◌*◌, ◌+◌, ◌-◌, ◌<◌, ◌∙◌, ◌≤◌}
use Rattle.work.proofs.CancelGrowth.{went_both}
use Rattle.work.proofs.CancelWalk.{cancels_now, earlier_now, few_walked, in_ring, none_left, search_aims, search_grown, searching_first, searching_next, target_now, walked_next}
use Rattle.work.proofs.cancel.search.Goals as goal

pub loop-k-init : goal.loop-k-init
loop-k-init c = ((refl, refl), refl, searching_first c.args.seat.now.me.0 c.args.task.now.req c.args.first c.requires.first.past)

pub try_one-requires : goal.try_one-requires
try_one-requires c = let table = c.args.task.now.words.now.table_id in let K = c.args.task.now.grid.now in let s = c.args.seat.now in let t = c.loop-k.seat in let q = c.args.task.now.req in let u = c.args.wanted in let k = c.loop-k.k in let x = c.earlier-target.result in let e = c.earlier-target.ensures in let l = c.loop-k.invariant in let r = c.requires in let lt = c.loop-k-test.true in let less : k < q.k = omega arith in
    let grown = search_grown table s t q u c.args.first k r.cancels.0 l.2 in
    record { cancels = (q, cancels_now table K s t q u k x r.cancels.0 r.grid grown l.0.0 less e.cell e.at, earlier_now table K s t q u k x r.cancels.0 r.grid grown l.0.0 less e.cell e.at, search_aims table s t q u c.args.first k r.cancels.0 l.2 r.cancels.1 r.cancels.2 _ (target_now table K s t q u k x r.cancels.0 r.grid grown l.0.0 less e.cell e.at)) }

pub returns-in-Took-clause-searched : goal.returns-in-Took-clause-searched
returns-in-Took-clause-searched c = let table = c.args.task.now.words.now.table_id in let K = c.args.task.now.grid.now in let s = c.args.seat.now in let t = c.loop-k.seat in let q = c.args.task.now.req in let u = c.args.wanted in let k = c.loop-k.k in let x = c.earlier-target.result in let e = c.earlier-target.ensures in let l = c.loop-k.invariant in let r = c.requires in let lt = c.loop-k-test.true in let less : k < q.k = omega arith in
    let grown = search_grown table s t q u c.args.first k r.cancels.0 l.2 in
    let d = c.in-Took.ensures.tried q (cancels_now table K s t q u k x r.cancels.0 r.grid grown l.0.0 less e.cell e.at) in let n : ℕ = cells_in K q.ring in
    let near : q.k < c.args.first + n = r.first.near in let low : c.args.first ≤ k = l.2.walked.low in let two : 1 < n = omega arith in
    (less, subst (λ (L : List ℕ). 1 < cells_in L q.ring) (sym r.grid.cells_are) two, d.0, went_both s.me.0 t.me.0 d.0 l.2.went d.1, subst (λ (z : Req). Extends d.0 (Did (Take q z)) (Busy q) c.try_one.new.seat.me.0) (target_now table K s t q u k x r.cancels.0 r.grid grown l.0.0 less e.cell e.at) d.2)

pub returns-in-Took-clause-steps : goal.returns-in-Took-clause-steps
returns-in-Took-clause-steps c = let K = c.args.task.now.grid.now in let q = c.args.task.now.req in let k = c.loop-k.k in let x = c.earlier-target.result in let l = c.loop-k.invariant in let r = c.requires in let lt = c.loop-k-test.true in let less : k < q.k = omega arith in
    let first = c.args.first in let low : first ≤ k = l.2.walked.low in
    few_walked 3 (5 * (k + 1 - first)) (5 * (q.k - first)) c.args.seat.now.me.0 c.try_one.new.seat.me.0 q first (k + 1) (omega arith)
    (walked_next K c.args.seat.now.me.0 c.loop-k.seat.me.0 c.try_one.new.seat.me.0 q 3 (5 * (k - first)) (5 * (k + 1 - first)) first k x.cell x.generation r.grid.cells_are l.2.walked less r.first.near c.earlier-target.ensures.at 5 (omega arith) c.try_one.ensures.steps)

pub returns-in-Missed-clause-searched : goal.returns-in-Missed-clause-searched
returns-in-Missed-clause-searched c = let table = c.args.task.now.words.now.table_id in let K = c.args.task.now.grid.now in let s = c.args.seat.now in let t = c.loop-k.seat in let q = c.args.task.now.req in let u = c.args.wanted in let k = c.loop-k.k in let x = c.earlier-target.result in let e = c.earlier-target.ensures in let l = c.loop-k.invariant in let r = c.requires in let lt = c.loop-k-test.true in let less : k < q.k = omega arith in
    let grown = search_grown table s t q u c.args.first k r.cancels.0 l.2 in
    let d = c.in-Missed.ensures.tried q (cancels_now table K s t q u k x r.cancels.0 r.grid grown l.0.0 less e.cell e.at) in
    (in_ring q.ring k, less, d.0, went_both s.me.0 t.me.0 d.0 l.2.went d.1, subst (λ (z : Req). Extends d.0 (Did (Miss q z)) (Busy q) c.try_one.new.seat.me.0) (target_now table K s t q u k x r.cancels.0 r.grid grown l.0.0 less e.cell e.at) d.2)

pub returns-in-Missed-clause-steps : goal.returns-in-Missed-clause-steps
returns-in-Missed-clause-steps c = let K = c.args.task.now.grid.now in let q = c.args.task.now.req in let k = c.loop-k.k in let x = c.earlier-target.result in let l = c.loop-k.invariant in let r = c.requires in let lt = c.loop-k-test.true in let less : k < q.k = omega arith in
    let first = c.args.first in let low : first ≤ k = l.2.walked.low in
    few_walked 3 (5 * (k + 1 - first)) (5 * (q.k - first)) c.args.seat.now.me.0 c.try_one.new.seat.me.0 q first (k + 1) (omega arith)
    (walked_next K c.args.seat.now.me.0 c.loop-k.seat.me.0 c.try_one.new.seat.me.0 q 3 (5 * (k - first)) (5 * (k + 1 - first)) first k x.cell x.generation r.grid.cells_are l.2.walked less r.first.near c.earlier-target.ensures.at 5 (omega arith) c.try_one.ensures.steps)

pub loop-k-preserved : goal.loop-k-preserved
loop-k-preserved c = let table = c.args.task.now.words.now.table_id in let K = c.args.task.now.grid.now in let s = c.args.seat.now in let t = c.loop-k.seat in let w = c.try_one.new.seat in let q = c.args.task.now.req in let u = c.args.wanted in let k = c.loop-k.k in let x = c.earlier-target.result in let e = c.earlier-target.ensures in let l = c.loop-k.invariant in let r = c.requires in let lt = c.loop-k-test.true in let less : k < q.k = omega arith in
    let grown = search_grown table s t q u c.args.first k r.cancels.0 l.2 in let known = cancels_now table K s t q u k x r.cancels.0 r.grid grown l.0.0 less e.cell e.at in
    let first = c.args.first in let low : first ≤ k = l.2.walked.low in let o = c.try_one.ensures.seat in
    let walked = walked_next K s.me.0 t.me.0 w.me.0 q 3 (5 * (k - first)) (5 * (k + 1 - first)) first k x.cell x.generation r.grid.cells_are l.2.walked less r.first.near e.at 5 (omega arith) c.try_one.ensures.steps in
    let d = subst (λ (z : Req). DidTry t.me.0 w.me.0 q z Passed) (target_now table K s t q u k x r.cancels.0 r.grid grown l.0.0 less e.cell e.at) (c.in-Passed.ensures.tried q known) in
    ((o.0.0 ∙ l.0.0, o.0.1 ∙ l.0.1), o.1 ∙ l.1, searching_next table s t w.me.0 q u c.args.first k known l.2 walked d)

pub returns-clause-searched : goal.returns-clause-searched
returns-clause-searched c = let l = c.loop-k.invariant in let end : c.args.task.now.req.k ≤ c.loop-k.k = (let lt = c.loop-k-test.false in omega arith) in (l.2.went, none_left c.args.seat.now.me.0 c.loop-k.seat.me.0 c.args.task.now.req c.args.first c.loop-k.k end l.2)

pub returns-clause-steps : goal.returns-clause-steps
returns-clause-steps c = let q = c.args.task.now.req in let k = c.loop-k.k in let first = c.args.first in let low : first ≤ q.k = c.requires.first.low in let end : k ≤ q.k = (let l = c.loop-k.auto.k-end in omega arith) in
    few_walked 3 (5 * (k - first)) (5 * (q.k - first)) c.args.seat.now.me.0 c.loop-k.seat.me.0 q first k (omega arith) c.loop-k.invariant.2.walked
