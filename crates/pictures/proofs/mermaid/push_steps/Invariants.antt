use Rattle.pictures.proofs.Common.{drop, map, shown, steps, string_bytes, ◌++◌, ◌≡◌}
use Rattle.pictures.proofs.mermaid.push_steps.Given as goal

abbrev pub invariant-loop-mark : goal.invariant-loop-mark
invariant-loop-mark l = string_bytes l.out ++ steps l.columns.rings l.columns.workers (map shown (drop l.mark-index l.marks)) ≡ string_bytes l.fn.out ++ steps l.columns.rings l.columns.workers (map shown l.marks)
