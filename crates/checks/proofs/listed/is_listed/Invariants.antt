use Rattle.checks.proofs.Common.{Among, drop, map, rows_of}
use Rattle.checks.proofs.listed.is_listed.Given as goal

abbrev pub invariant-loop-one : goal.invariant-loop-one
invariant-loop-one l = Among (rows_of l.table) (map rows_of l.tables) → Among (rows_of l.table) (map rows_of (drop l.one-index l.tables))
