use Rattle.std.specs.List.{AllByRecursion}
use Rattle.explore.specs.{IsHistoryOf, HasStates}
use Rattle.explore.specs.Noted.{Noted}
use Rattle.pictures.specs.Shown.{explained_of}
use Rattle.checks.proofs.Common.{drop, map, rows_of, ◌++◌, ◌≡◌}
use Rattle.checks.proofs.explained.explain.Given as goal

abbrev pub invariant-loop-table : goal.invariant-loop-table
invariant-loop-table g l = record {
  tables : map (λ x. x.0) (map explained_of l.made.items) ++ map rows_of (drop l.table-index l.tables) ≡ map rows_of l.tables;
  histories : AllByRecursion (λ x. IsHistoryOf l.script x.0 x.1) (map explained_of l.made.items);
  noted : Noted g.O.Observer.notes (HasStates l.script) l.fn.observer l.observer;
}
