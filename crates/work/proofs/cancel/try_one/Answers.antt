use Rattle.work.proofs.Common.{DidTake, IsMeant, Req, inr, subst, sym, target_in, true≢false, ◌∙◌}
use Rattle.work.proofs.CancelSearch.{aim_looked, cancels_looked, earlier_looked, stepped_both, take_later, target_looked, try_taken}
use Rattle.work.proofs.cancel.try_one.Goals as goal

pub take-requires : goal.take-requires
take-requires c = let s = c.args.seat.now in let m = c.may_match.new.seat in let e = c.may_match.ensures in let r = c.requires.cancels in let table = c.args.words.now.table_id in let k = cancels_looked table s m r.0 c.args.wanted r.1 e.looks e.seat.0.0 in record {
  cancels = (r.0, c.args.wanted, k, earlier_looked table s m r.0 c.args.target r.2 e.looks e.seat.0.0, aim_looked table s m r.0 c.args.wanted c.args.target r.1 e.looks r.3, subst (λ (q : Req). IsMeant m.me.0 r.0 q) (sym (target_looked s m c.args.target e.looks)) (e.meant c.if-may_match.true r.0 r.1));
}

pub returns-then-may_match-clause-tried : goal.returns-then-may_match-clause-tried
returns-then-may_match-clause-tried c = let s = c.args.seat.now in let m = c.may_match.new.seat in let n = c.take.new.seat in let e = c.may_match.ensures in let table = c.args.words.now.table_id in let q = target_in s c.args.target in λ d k.
    try_taken s.me.0 n.me.0 d q c.take.result
    (take_later s.me.0 m.me.0 n.me.0 d q c.take.result e.looks (subst (λ (z : Req). DidTake m.me.0 n.me.0 d z c.take.result) (target_looked s m c.args.target e.looks) (c.take.ensures.tried d c.args.wanted (cancels_looked table s m d c.args.wanted k e.looks e.seat.0.0))))

pub returns-then-may_match-clause-steps : goal.returns-then-may_match-clause-steps
returns-then-may_match-clause-steps c = let s = c.args.seat.now in let m = c.may_match.new.seat in let n = c.take.new.seat in stepped_both s.me.0 m.me.0 n.me.0 c.args.target.cell 0 3 2 3 c.may_match.ensures.steps c.take.ensures.steps

pub returns-else-may_match-clause-tried : goal.returns-else-may_match-clause-tried
returns-else-may_match-clause-tried c = let e = c.may_match.ensures in λ d k. (inr e.looks, e.passed (λ z. true≢false (sym z ∙ c.if-may_match.false)) d k)
