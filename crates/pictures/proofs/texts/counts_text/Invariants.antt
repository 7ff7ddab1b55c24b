use Rattle.pictures.proofs.Common.{drop, map, counted_of, counts_lines, ◌++◌, ◌≡◌}
use Rattle.pictures.proofs.texts.counts_text.Given as goal

abbrev pub invariant-loop-one : goal.invariant-loop-one
invariant-loop-one l = l.out.items ++ counts_lines l.script (map counted_of (drop l.one-index l.counts)) ≡ counts_lines l.script (map counted_of l.counts)
