use Rattle.prep.proofs.Common.{timeout_count_op}
use Rattle.prep.proofs.Columns.{Reads-timeout, built}
use Rattle.prep.proofs.timeout_count.Goals as goal

pub returns-clause-entry : goal.returns-clause-entry
returns-clause-entry c = built _ c.entry_of.result (timeout_count_op c.args.ticks c.args.count c.args.flags) c.entry_of.ensures (Reads-timeout c.args.ticks c.args.count c.args.flags)
