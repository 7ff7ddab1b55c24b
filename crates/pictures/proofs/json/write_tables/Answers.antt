use Rattle.pictures.proofs.Common.{Data, IfOk, ap, has_float, json_text, map, rows_of, subst, table_data, ◌∙◌, ◌≡◌}
use Rattle.pictures.proofs.JsonValues.{list_ends, tables_plain}
use Rattle.pictures.proofs.json.write_tables.Goals as goal

pub text_of-requires : goal.text_of-requires
text_of-requires c = ap has_float (list_ends (λ lines. table_data c.args.script.now lines) rows_of c.args.tables.now c.loop-table.table-index c.loop-table.list c.loop-table-test.false c.loop-table.invariant) ∙ tables_plain c.args.script.now (map rows_of c.args.tables.now)

pub returns : goal.returns
returns c = subst (λ (d : Data). IfOk c.text_of.result (λ text. text.items ≡ json_text d)) (list_ends (λ lines. table_data c.args.script.now lines) rows_of c.args.tables.now c.loop-table.table-index c.loop-table.list c.loop-table-test.false c.loop-table.invariant) c.text_of.ensures
