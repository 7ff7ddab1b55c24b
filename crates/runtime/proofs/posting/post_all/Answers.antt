use Rattle.runtime.proofs.Common.{sym, ◌∙◌}
use Rattle.runtime.proofs.RuntimeParts.{none_first}
use Rattle.runtime.proofs.posting.post_all.Goals as goal

pub returns-in_default-clause-empty : goal.returns-in_default-clause-empty
returns-in_default-clause-empty g c = none_first _ (sym c.first.ensures ∙ c.in_default.is)
