use Rattle.prep.proofs.Common.{Close, plain, refl, to_z-of_z, w32}
use Rattle.prep.proofs.Columns.{is_i32-from, plain-fits}
use Rattle.prep.proofs.close.Goals as goal

pub returns : goal.returns
returns c =
    let signed = to_z-of_z w32 c.args.fd c.ranges.fd in
    c.entry_of.ensures.again (plain (Close c.args.fd)) (plain-fits (Close c.args.fd) (is_i32-from c.args.fd c.ranges.fd)) (rw signed refl) refl refl
