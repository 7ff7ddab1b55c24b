use Rattle.checks.specs.Verdicts.{AreAmong}
use Rattle.checks.proofs.Common.{drop, map, rows_of}
use Rattle.checks.proofs.listed.are_listed.Given as goal

abbrev pub invariant-loop-one : goal.invariant-loop-one
invariant-loop-one l = AreAmong (map rows_of (drop l.one-index l.given)) (map rows_of l.tables) → AreAmong (map rows_of l.given) (map rows_of l.tables)
