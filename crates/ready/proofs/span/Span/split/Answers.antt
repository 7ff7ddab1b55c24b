use Rattle.ready.proofs.Common.{List, Req, arith, length, most, subst, suc, ◌≤◌}
use Rattle.ready.proofs.SpanLists.{run_length}
use Rattle.ready.proofs.span.Span.split.Goals as goal

pub returns-clause-few : goal.returns-clause-few
returns-clause-few c = let s = c.self.inside in let f = c.self.invariant.few in let n = run_length s.ring s.k (suc s.more) in
    subst (λ (z : List Req). length z ≤ most) c.self.view_is (omega arith)
