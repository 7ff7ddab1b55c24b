use Rattle.std.proofs.Common.{rules}
use Rattle.tests.proofs.stage.Stage.new.Goals as goal

pub invariant_of-result : goal.invariant_of-result
invariant_of-result c = (search rules, search rules, search rules, search rules, search rules, search rules, search rules, search rules, search rules, search rules)
