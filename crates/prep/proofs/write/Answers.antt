use Rattle.prep.proofs.Common.{to_z-of_z, w32, write_op}
use Rattle.prep.proofs.Columns.{Reads-write, built}
use Rattle.prep.proofs.write.Goals as goal

pub returns-clause-entry : goal.returns-clause-entry
returns-clause-entry c =
    built _ c.entry_of.result (write_op c.args.fd c.args.len c.args.off) c.entry_of.ensures (Reads-write _ c.args.fd c.args.len c.args.off c.ranges.fd (to_z-of_z w32 c.args.fd c.ranges.fd))
