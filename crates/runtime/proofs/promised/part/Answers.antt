use Rattle.runtime.proofs.Common.{All, All-push, IsWorkSide, List, WorkSide, [], ap, arith, length, length-append, own_in, own_share, rules, shares_in, subst, sum_by_push, sym, ◌∷◌, ◌≡◌}
use Rattle.runtime.proofs.promised.part.Goals as goal

pub returns-in-Some-clause-ended : goal.returns-in-Some-clause-ended
returns-in-Some-clause-ended g c =
    let s = c.args.shared.now in
    let own : IsWorkSide s c.in-Some.own = search rules in
    let alone = subst (λ (w : WorkSide). IsWorkSide s w) (sym c.alone.ensures) own in
    let one : own_in c.args.side.own ≡ 1 = search rules in
    let more = ap (λ (z : List WorkSide). length z) c.push_reserved.ensures.items in (
      subst (λ (z : List WorkSide). All (λ w. IsWorkSide s w) z) (sym c.push_reserved.ensures.items) (All-push (λ (w : WorkSide). IsWorkSide s w) _ _ c.requires.ended alone),
      omega (arith, one, more, length-append c.args.ended.now.items (c.alone.result ∷ [])),
    )

pub returns-in-Some-clause-shares : goal.returns-in-Some-clause-shares
returns-in-Some-clause-shares g c =
    let share : own_share c.args.side.own ≡ c.in-Some.own.desk.ready.share = search rules in
    let same = ap (λ (w : WorkSide). w.desk.ready.share) c.alone.ensures in
    let sum = ap (λ (z : List WorkSide). shares_in z) c.push_reserved.ensures.items in
    omega (arith, share, same, sum, sum_by_push (λ (w : WorkSide). w.desk.ready.share) c.args.ended.now.items c.alone.result)
