use Rattle.pictures.proofs.Common.{drop, rule_cells, ◌++◌, ◌≡◌}
use Rattle.pictures.proofs.lanes.push_rule.Given as goal

abbrev pub invariant-loop-width : goal.invariant-loop-width
invariant-loop-width l = l.out.items ++ rule_cells (drop l.width-index l.widths) ≡ l.fn.out.items ++ rule_cells l.widths
