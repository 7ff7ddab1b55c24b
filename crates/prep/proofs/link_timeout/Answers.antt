use Rattle.prep.proofs.Common.{link_timeout_op}
use Rattle.prep.proofs.Columns.{Reads-link_timeout, built}
use Rattle.prep.proofs.link_timeout.Goals as goal

pub returns-clause-entry : goal.returns-clause-entry
returns-clause-entry c = built _ c.entry_of.result (link_timeout_op c.args.ticks) c.entry_of.ensures (Reads-link_timeout c.args.ticks)
