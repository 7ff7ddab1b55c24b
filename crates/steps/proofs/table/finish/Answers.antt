use Rattle.steps.proofs.CutsJoinsEnd.{ends}
use Rattle.steps.proofs.table.finish.Goals as goal

pub returns : goal.returns
returns c = record { full = (c.close_with.ensures.values.0, c.close_with.ensures.values.1); counts = c.close_with.ensures.counts.0; ended = ends _ _ _ _ _ c.close_with.ensures.values.2 }
