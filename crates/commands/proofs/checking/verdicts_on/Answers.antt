use Rattle.commands.proofs.Common.{err_from_is_err_and, given_of, map, refl}
use Rattle.commands.proofs.Gone.{among_at, verdict_more, verdicts_all}
use Rattle.commands.proofs.Problems.{of_files}
use Rattle.commands.proofs.checking.verdicts_on.Goals as goal

pub returns-in_err-verdict-clause-explains : goal.returns-in_err-verdict-clause-explains
returns-in_err-verdict-clause-explains c =
    let p = err_from_is_err_and c.from_residual.result c.from_residual.ensures.1 in
    let there = among_at given_of c.args.given.now c.loop-one.one-index c.one-item.result c.loop-one-test.true c.one-item.is in
    rw (p.1, p.2) (of_files c.args.script.now (map given_of c.args.given.now) (given_of c.one-item.result) c.in_err-verdict.field-0.0 there (rw c.deref.ensures.value at c.in_err-verdict.ensures.explains))

pub loop-one-init : goal.loop-one-init
loop-one-init c = λ vs are. rw c.new-made.ensures.items are

pub loop-one-preserved : goal.loop-one-preserved
loop-one-preserved c =
    verdict_more c.args.script.now c.args.given.now c.loop-one.one-index c.one-item.result c.loop-one.made.items _ c.one-item.result.0 c.in_ok-verdict.verdict c.loop-one-test.true c.one-item.is c.in_ok-push.ensures.items refl (rw c.deref.ensures.value at c.in_ok-verdict.ensures.verdict) c.loop-one.invariant

pub returns-clause-verdicts : goal.returns-clause-verdicts
returns-clause-verdicts c = verdicts_all c.args.script.now c.args.given.now c.loop-one.one-index c.loop-one.made.items c.loop-one-test.false c.loop-one.invariant
