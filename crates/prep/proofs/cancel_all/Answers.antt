use Rattle.prep.proofs.Common.{AsyncCancel, lt-ltb, plain, refl, true}
use Rattle.prep.proofs.Columns.{plain-fits}
use Rattle.prep.proofs.cancel_all.Goals as goal

pub returns : goal.returns
returns c =
    let op = AsyncCancel c.args.user_data true in
    c.entry_of.ensures.again (plain op) (plain-fits op (lt-ltb c.args.user_data 18446744073709551616 c.ranges.user_data.fits)) refl refl refl
