use Rattle.pictures.proofs.Common.{drop, map, rows_of, table_data, view, ◌++◌, ◌≡◌}
use Rattle.pictures.proofs.json.write_tables.Given as goal

abbrev pub invariant-loop-table : goal.invariant-loop-table
invariant-loop-table l = map view l.list.items ++ map (λ lines. table_data l.script lines) (map rows_of (drop l.table-index l.tables)) ≡ map (λ lines. table_data l.script lines) (map rows_of l.tables)
