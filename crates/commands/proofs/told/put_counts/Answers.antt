use Rattle.commands.proofs.Common.{err_from_is_err_and}
use Rattle.commands.proofs.Telling.{some_longer, then_all, then_some}
use Rattle.commands.proofs.told.put_counts.Goals as goal

pub returns-in_err-put_number-clause-begun : goal.returns-in_err-put_number-clause-begun
returns-in_err-put_number-clause-begun g c =
    let p = err_from_is_err_and c.from_residual.result c.from_residual.ensures.1 in
    rw (p.1) (some_longer _ _ _ _ c.in_err-put_number.ensures.begun)

pub returns-clause-all : goal.returns-clause-all
returns-clause-all g c = then_all c.put_number-2.result _ _ _ _ _ c.in_ok-put_number.ensures.all (rw c.rate_of-rate.ensures at c.put_number-2.ensures.all)

pub returns-clause-begun : goal.returns-clause-begun
returns-clause-begun g c = then_some c.put_number-2.result _ _ _ _ _ c.in_ok-put_number.ensures.all (rw c.rate_of-rate.ensures at c.put_number-2.ensures.begun)
