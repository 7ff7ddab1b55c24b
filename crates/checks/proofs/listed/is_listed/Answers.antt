use Rattle.checks.proofs.Common.{Among, List, map, refl, rows_of, subst, sym, ℕ, ℤ}
use Rattle.checks.proofs.Members.{among_at}
use Rattle.checks.proofs.listed.is_listed.Goals as goal

pub returns-then-are_same : goal.returns-then-are_same
returns-then-are_same c =
    let same = c.are_same.ensures.same.0 c.if-are_same.true in
    ((λ _. subst (λ (r : List (ℤ × List ℕ)). Among r (map rows_of c.args.tables.now)) (sym same) (among_at c.args.tables.now c.loop-one.one-index c.one-item.result c.loop-one-test.true c.one-item.is)), (λ _. refl))
