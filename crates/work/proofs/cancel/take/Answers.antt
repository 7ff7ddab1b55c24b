use Rattle.work.proofs.Common.{DidTake, Looks, Req, arith, subst, target_in, ◌∙◌}
use Rattle.work.proofs.CancelSearch.{aim_looked, cancels_looked, earlier_looked, meant_looked, stepped_both, stepped_claim, stepped_less, take_later, target_looked}
use Rattle.work.proofs.PassesKept.{looks_both}
use Rattle.work.proofs.cancel.take.Goals as goal

pub attempt-requires-clause-cancels : goal.attempt-requires-clause-cancels
attempt-requires-clause-cancels c = let s = c.args.seat.now in let f = c.look-first.new.seat in let r = c.requires.cancels in let table = c.args.words.now.table_id in let x : Looks s.me.0 f.me.0 = c.look-first.ensures.looks in let same = c.look-first.ensures.seat.0.0 in
    (r.0, r.1, cancels_looked table s f r.0 r.1 r.2 x same, earlier_looked table s f r.0 c.args.target r.3 x same, aim_looked table s f r.0 r.1 c.args.target r.2 x r.4, meant_looked table s f r.0 r.1 c.args.target r.2 x r.5)

pub returns-in-Ok-clause-tried : goal.returns-in-Ok-clause-tried
returns-in-Ok-clause-tried c = let s = c.args.seat.now in let f = c.look-first.new.seat in let table = c.args.words.now.table_id in let x : Looks s.me.0 f.me.0 = c.look-first.ensures.looks in λ d w k.
    take_later s.me.0 f.me.0 c.attempt.new.seat.me.0 d (target_in s c.args.target) c.in-Ok.tried x
    (subst (λ (q : Req). DidTake f.me.0 c.attempt.new.seat.me.0 d q c.in-Ok.tried) (target_looked s f c.args.target x) (c.in-Ok.ensures.tried d w (cancels_looked table s f d w k x c.look-first.ensures.seat.0.0)))

pub returns-in-Ok-clause-steps : goal.returns-in-Ok-clause-steps
returns-in-Ok-clause-steps c = let s = c.args.seat.now in let f = c.look-first.new.seat in let cell = c.args.target.cell in let n = c.attempt.new.seat in
    stepped_less s.me.0 n.me.0 cell 2 3 2 3 (omega arith) (omega arith) (stepped_both s.me.0 f.me.0 n.me.0 cell 1 1 1 1 (stepped_claim s.me.0 f.me.0 cell c.look-first.result c.look-first.ensures.step) c.in-Ok.ensures.steps)

pub attempt-requires-2-clause-cancels : goal.attempt-requires-2-clause-cancels
attempt-requires-2-clause-cancels c = let s = c.args.seat.now in let f = c.look-first.new.seat in let g = c.attempt.new.seat in let r = c.requires.cancels in let table = c.args.words.now.table_id in let x : Looks s.me.0 f.me.0 = c.look-first.ensures.looks in let same = c.look-first.ensures.seat.0.0 in
    let y : Looks f.me.0 g.me.0 = c.in-Err.ensures.again.0 in let one = c.in-Err.ensures.seat.0.0 in let k = cancels_looked table s f r.0 r.1 r.2 x same in (
      r.0,
      r.1,
      cancels_looked table f g r.0 r.1 k y one,
      earlier_looked table f g r.0 c.args.target (earlier_looked table s f r.0 c.args.target r.3 x same) y one,
      aim_looked table f g r.0 r.1 c.args.target k y (aim_looked table s f r.0 r.1 c.args.target r.2 x r.4),
      meant_looked table f g r.0 r.1 c.args.target k y (meant_looked table s f r.0 r.1 c.args.target r.2 x r.5),
    )

pub returns-clause-tried : goal.returns-clause-tried
returns-clause-tried c = let s = c.args.seat.now in let f = c.look-first.new.seat in let g = c.attempt.new.seat in let n = c.attempt-2.new.seat in let table = c.args.words.now.table_id in let t = c.in-Ok-attempt.tried in let x : Looks s.me.0 f.me.0 = c.look-first.ensures.looks in let y : Looks f.me.0 g.me.0 = c.in-Err.ensures.again.0 in λ d w k.
    let known = cancels_looked table f g d w (cancels_looked table s f d w k x c.look-first.ensures.seat.0.0) y c.in-Err.ensures.seat.0.0 in
    take_later s.me.0 g.me.0 n.me.0 d (target_in s c.args.target) t (looks_both s.me.0 f.me.0 g.me.0 x y) (subst (λ (q : Req). DidTake g.me.0 n.me.0 d q t) (target_looked f g c.args.target y ∙ target_looked s f c.args.target x) (c.in-Ok-attempt.ensures.tried d w known))

pub returns-clause-steps : goal.returns-clause-steps
returns-clause-steps c = let s = c.args.seat.now in let f = c.look-first.new.seat in let g = c.attempt.new.seat in let n = c.attempt-2.new.seat in let cell = c.args.target.cell in
    stepped_both s.me.0 g.me.0 n.me.0 cell 2 1 2 1 (stepped_both s.me.0 f.me.0 g.me.0 cell 1 1 1 1 (stepped_claim s.me.0 f.me.0 cell c.look-first.result c.look-first.ensures.step) c.in-Err.ensures.steps) c.in-Ok-attempt.ensures.steps
