use Rattle.prep.proofs.Common.{splice_op, to_z-of_z, w32}
use Rattle.prep.proofs.Columns.{Reads-splice, built}
use Rattle.prep.proofs.splice.Goals as goal

pub returns-clause-entry : goal.returns-clause-entry
returns-clause-entry c =
    built _ c.entry_of.result (splice_op c.args.fd_in c.args.fd_out c.args.len) c.entry_of.ensures
    (Reads-splice _ _ c.args.fd_in c.args.fd_out c.args.len c.ranges.fd_in c.ranges.fd_out (to_z-of_z w32 c.args.fd_in c.ranges.fd_in) (to_z-of_z w32 c.args.fd_out c.ranges.fd_out))
