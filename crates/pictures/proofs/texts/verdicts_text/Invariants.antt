use Rattle.pictures.proofs.Common.{drop, map, verdict_lines, verdict_of, ◌++◌, ◌≡◌}
use Rattle.pictures.proofs.texts.verdicts_text.Given as goal

abbrev pub invariant-loop-one : goal.invariant-loop-one
invariant-loop-one l = l.out.items ++ verdict_lines (map verdict_of (drop l.one-index l.verdicts)) ≡ verdict_lines (map verdict_of l.verdicts)
