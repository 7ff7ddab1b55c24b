use Rattle.commands.proofs.Common.{err_from_is_err_and, given_of, map}
use Rattle.commands.proofs.Gone.{among_at}
use Rattle.commands.proofs.Problems.{of_files}
use Rattle.commands.proofs.checking.are_files.Goals as goal

pub returns-in_err-is_file : goal.returns-in_err-is_file
returns-in_err-is_file c =
    let p = err_from_is_err_and c.from_residual.result c.from_residual.ensures.1 in
    let there = among_at given_of c.args.given.now c.loop-one.one-index c.one-item.result c.loop-one-test.true c.one-item.is in
    rw (p.1, p.2) (record { explains = of_files c.args.script.now (map given_of c.args.given.now) (given_of c.one-item.result) c.in_err-is_file.field-0.0 there (rw c.deref.ensures.value at c.in_err-is_file.ensures) })
