use Rattle.prep.proofs.Common.{TimeoutRemove, lt-ltb, plain, refl}
use Rattle.prep.proofs.Columns.{plain-fits}
use Rattle.prep.proofs.timeout_remove.Goals as goal

pub returns : goal.returns
returns c =
    let op = TimeoutRemove c.args.user_data in
    c.entry_of.ensures.again (plain op) (plain-fits op (lt-ltb c.args.user_data 18446744073709551616 c.ranges.user_data.fits)) refl refl refl
