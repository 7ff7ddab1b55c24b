use Rattle.commands.proofs.Common.{err_from_is_err_and, given_of, map}
use Rattle.commands.proofs.Lines.{said_of, unsaid}
use Rattle.commands.proofs.Printing.{reads_of}
use Rattle.commands.proofs.Problems.{answered, explained, of_script_fault}
use Rattle.commands.proofs.answer.answer.Goals as goal

pub returns-in_err-script-clause-explains : goal.returns-in_err-script-clause-explains
returns-in_err-script-clause-explains g c =
    let p = err_from_is_err_and c.from_residual-in_err-script.result c.from_residual-in_err-script.ensures.1 in
    rw (p.1) (of_script_fault c.args.job.now _ _ _ c.deref.result.now _ p.0 c.in_ok-text.ensures.all c.deref.ensures.value c.in_err-script.ensures.told p.2)

pub returns-clause-answer : goal.returns-clause-answer
returns-clause-answer g c =
    answered c.answer_to.result c.args.job.now _ _ _ c.deref.result.now c.in_ok-script.script (map given_of c.in_ok-given.given.items) c.in_ok-text.ensures.all c.deref.ensures.value c.in_ok-script.ensures.says c.in_ok-given.ensures.read
    (rw c.deref-2.ensures.value at c.answer_to.ensures.prints) c.answer_to.ensures.counts

pub returns-clause-explains : goal.returns-clause-explains
returns-clause-explains g c =
    explained c.answer_to.result c.args.job.now _ _ _ c.deref.result.now c.in_ok-script.script (map given_of c.in_ok-given.given.items) c.in_ok-text.ensures.all c.deref.ensures.value c.in_ok-script.ensures.says c.in_ok-given.ensures.read
    (rw c.deref-2.ensures.value at c.answer_to.ensures.explains)

pub returns-in_err-text-clause-said : goal.returns-in_err-text-clause-said
returns-in_err-text-clause-said g c = unsaid _ _ _

pub returns-in_err-script-clause-said : goal.returns-in_err-script-clause-said
returns-in_err-script-clause-said g c = unsaid _ _ _

pub returns-in_err-given-clause-said : goal.returns-in_err-given-clause-said
returns-in_err-given-clause-said g c = unsaid _ _ _

pub returns-clause-said : goal.returns-clause-said
returns-clause-said g c =
    said_of _ _ c.in_ok-script.script _ _ (reads_of _ _ c.deref.result.now c.in_ok-script.script c.in_ok-text.ensures.all c.deref.ensures.value c.in_ok-script.ensures.says) c.answer_to.ensures.said
