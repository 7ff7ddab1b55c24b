use Rattle.pictures.proofs.Common.{ap, has_float, ◌∙◌}
use Rattle.pictures.proofs.JsonValues.{history_plain}
use Rattle.pictures.proofs.json.write_history.Goals as goal

pub text_of-requires : goal.text_of-requires
text_of-requires c = ap has_float c.in_ok-value.ensures ∙ history_plain c.args.script.now c.args.events.now
