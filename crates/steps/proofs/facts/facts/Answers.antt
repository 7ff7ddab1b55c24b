use Rattle.steps.proofs.Common.{◌∙◌}
use Rattle.steps.proofs.FactsKept.{packed_generation}
use Rattle.steps.proofs.facts.facts.Goals as goal

pub returns-clause-generation : goal.returns-clause-generation
returns-clause-generation c = let z = packed_generation _ in (z.0, c.pack_facts.ensures.packed ∙ z.1)
