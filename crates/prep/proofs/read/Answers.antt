use Rattle.prep.proofs.Common.{read_op, to_z-of_z, w32}
use Rattle.prep.proofs.Columns.{Reads-read, built}
use Rattle.prep.proofs.read.Goals as goal

pub returns-clause-entry : goal.returns-clause-entry
returns-clause-entry c =
    built _ c.entry_of.result (read_op c.args.fd c.args.len c.args.off) c.entry_of.ensures (Reads-read _ c.args.fd c.args.len c.args.off c.ranges.fd (to_z-of_z w32 c.args.fd c.ranges.fd))
