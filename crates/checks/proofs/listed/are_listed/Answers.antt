use Rattle.checks.proofs.Common.{refl, rows_of, sym, true≢false, ◌∙◌}
use Rattle.checks.proofs.Members.{all_in, among_at, one_more}
use Rattle.checks.proofs.listed.are_listed.Goals as goal

pub returns-then-not-is_listed : goal.returns-then-not-is_listed
returns-then-not-is_listed c =
    let here = among_at c.args.given.now c.loop-one.one-index c.one-item.result c.loop-one-test.true c.one-item.is in
    ((λ t. absurd (true≢false (sym t))), (λ all. absurd (true≢false (sym (c.is_listed.ensures.1 (all (rows_of c.one-item.result) here)) ∙ c.if-not-is_listed.true))))

pub loop-one-preserved : goal.loop-one-preserved
loop-one-preserved c =
    one_more c.args.given.now c.args.tables.now c.loop-one.one-index c.one-item.result c.loop-one-test.true c.one-item.is (c.is_listed.ensures.0 c.if-not-is_listed.false) c.loop-one.invariant

pub returns : goal.returns
returns c = ((λ _. all_in c.args.given.now c.args.tables.now c.loop-one.one-index c.loop-one-test.false c.loop-one.invariant), (λ _. refl))
