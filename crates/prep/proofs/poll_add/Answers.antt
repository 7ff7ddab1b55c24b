use Rattle.prep.proofs.Common.{poll_op, to_z-of_z, w32}
use Rattle.prep.proofs.Columns.{Reads-poll, built}
use Rattle.prep.proofs.poll_add.Goals as goal

pub returns-clause-entry : goal.returns-clause-entry
returns-clause-entry c =
    built _ c.entry_of.result (poll_op c.args.fd c.args.mask) c.entry_of.ensures (Reads-poll _ c.args.fd c.args.mask c.ranges.fd (to_z-of_z w32 c.args.fd c.ranges.fd))
