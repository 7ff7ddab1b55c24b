use Rattle.runtime.proofs.Common.{List, Moves, Req, all_put, all_taken, ap, arith, rules, subst, times, ◌≡◌}
use Rattle.runtime.proofs.TurnParts.{none_there}
use Rattle.runtime.proofs.join.end.Goals as goal

pub returns-clause-drained : goal.returns-clause-drained
returns-clause-drained g c empty r =
    let same = c.gather_in-left.result.ok.0 in
    let zero_long : c.gather_in-left.result.len ≡ 0 = search rules in
    let none = none_there c.gather_in-left.result.items (omega (arith, same, zero_long)) in
    let zero = ap (λ (rs : List Req). times r rs) none in
    let law = c.gather_in-left.ensures.law r in
    subst (λ (ps : List Moves). times r (all_put ps) ≡ times r (all_taken ps)) c.parts-shared.ensures.passes.0 (omega (arith, law, zero))
