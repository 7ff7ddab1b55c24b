use Rattle.pictures.specs.Shown.{counted_of}
use Rattle.checks.proofs.Common.{drop, map, rows_of, take, counted, counts_of, ◌++◌, ◌≡◌}
use Rattle.checks.proofs.counts.counts_of.Given as goal

abbrev pub invariant-loop-place : goal.invariant-loop-place
invariant-loop-place l = map counted_of l.made.items ++ counted (map rows_of l.runs) (map rows_of (take l.place l.runs)) (map rows_of (drop l.place l.runs)) ≡ counts_of (map rows_of l.runs)
