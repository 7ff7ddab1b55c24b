use Rattle.pictures.proofs.Common.{ap, has_float, rows_of, ◌∙◌}
use Rattle.pictures.proofs.JsonValues.{table_plain}
use Rattle.pictures.proofs.json.write_table.Goals as goal

pub text_of-requires : goal.text_of-requires
text_of-requires c = ap has_float c.in_ok-value.ensures ∙ table_plain c.args.script.now (rows_of c.args.table.now)
