use Rattle.pictures.proofs.Common.{participants, string_bytes, ◌++◌, ◌+◌, ◌-◌, ◌≡◌}
use Rattle.pictures.proofs.mermaid.push_participants.Given as goal

abbrev pub invariant-loop-column : goal.invariant-loop-column
invariant-loop-column l = string_bytes l.out ++ participants l.columns.rings l.columns.workers l.column-counter (l.columns.rings + l.columns.workers + 2 + 1 - l.column-counter) ≡ string_bytes l.fn.out ++ participants l.columns.rings l.columns.workers 0 (l.columns.rings + l.columns.workers + 2 + 1)
