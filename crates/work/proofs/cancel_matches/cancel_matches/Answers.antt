use Rattle.work.proofs.Common.{DidCancel, arith, cells_in, rules, subst, sym, to_z-of_z, w32, ℕ, ◌*◌, ◌+◌, ◌-◌, ◌<◌, ◌∙◌, ◌≤◌}
use Rattle.work.proofs.CancelAdvance.{fewer_both}
use Rattle.work.proofs.CancelEnds.{cancel_later}
use Rattle.work.proofs.CancelGrowth.{by_grown, cancels_grown, grown_went, went_hit}
use Rattle.work.proofs.MarksKept.{marked_grown}
use Rattle.work.proofs.RunsKept.{grid_on}
use Rattle.work.proofs.cancel_matches.cancel_matches.Goals as goal

pub advance-first-requires-clause-cancels : goal.advance-first-requires-clause-cancels
advance-first-requires-clause-cancels c = (c.args.wanted, c.requires.cancels.0)

pub cancel_from-requires-clause-cancels : goal.cancel_from-requires-clause-cancels
cancel_from-requires-clause-cancels c = let table = c.args.task.now.words.now.table_id in let s = c.args.seat.now in let t = c.advance-first.new.seat in let q = c.args.task.now.req in let known = c.requires.cancels.0 in let o = c.advance-first.ensures in let grown = grown_went s.me.0 t.me.0 q known.busy known.legal known.orderly o.went in (cancels_grown table s t q c.args.wanted known grown o.seat.0.0, went_hit s.me.0 t.me.0 q known.busy o.went ∙ c.requires.cancels.1)

pub cancel_from-requires-clause-grid : goal.cancel_from-requires-clause-grid
cancel_from-requires-clause-grid c = let table = c.args.task.now.words.now.table_id in let s = c.args.seat.now in let t = c.advance-first.new.seat in let q = c.args.task.now.req in let known = c.requires.cancels.0 in let o = c.advance-first.ensures in let grown = grown_went s.me.0 t.me.0 q known.busy known.legal known.orderly o.went in grid_on table c.args.task.now.grid.now s.me.0 t.me.0 grown.layout_is c.requires.grid

pub returns-clause-seat : goal.returns-clause-seat
returns-clause-seat c = let a = c.advance-first.ensures.seat in let b = c.cancel_from.ensures.seat in ((b.0.0 ∙ a.0.0, b.0.1 ∙ a.0.1), b.1 ∙ a.1)

pub returns-clause-canceled : goal.returns-clause-canceled
returns-clause-canceled c = let v = c.args.seat.now.me.0 in let w = c.cancel_from.new.seat.me.0 in let list = c.cancel_from.new.took.items in
    subst (DidCancel v w c.args.task.now.req c.args.wanted list) (sym (to_z-of_z w32 c.cancel_from.result (search rules)))
    (cancel_later v c.advance-first.new.seat.me.0 w c.args.task.now.req c.args.wanted list c.cancel_from.result c.advance-first.ensures.went c.cancel_from.ensures.canceled)

pub returns-clause-marked : goal.returns-clause-marked
returns-clause-marked c = let table = c.args.task.now.words.now.table_id in let s = c.args.seat.now in let t = c.advance-first.new.seat in let q = c.args.task.now.req in let known = c.requires.cancels.0 in let o = c.advance-first.ensures in let grown = grown_went s.me.0 t.me.0 q known.busy known.legal known.orderly o.went in let w = c.cancel_from.new.seat in let h = c.cancel_from.ensures.canceled in let now = cancels_grown table s t q c.args.wanted known grown o.seat.0.0 in
    marked_grown c.advance-first.new.marks t.me.0 w.me.0 q (by_grown q t.me.0 w.me.0 h.own now.busy now.legal now.orderly h.went) o.marked

pub returns-clause-steps : goal.returns-clause-steps
returns-clause-steps c = let q = c.args.task.now.req in let first = c.advance-first.result in let o = c.advance-first.ensures in let n : ℕ = cells_in c.args.task.now.grid.now q.ring in let near : q.k < first + n = o.first.near in let low : first ≤ q.k = o.first.low in let le : n - (q.k - first) + 5 * (q.k - first) ≤ 5 * n - 1 = omega arith in
    fewer_both c.args.seat.now.me.0 c.advance-first.new.seat.me.0 c.cancel_from.new.seat.me.0 q 1 3 (n - (q.k - first)) (5 * (q.k - first)) (5 * n - 1) le o.steps c.cancel_from.ensures.steps
