use Rattle.pictures.proofs.Common.{Data, IfOk, ap, has_float, json_text, map, subst, verdict_data, verdict_of, ◌∙◌, ◌≡◌}
use Rattle.pictures.proofs.JsonValues.{list_ends, all_verdicts_plain}
use Rattle.pictures.proofs.json.write_verdicts.Goals as goal

pub text_of-requires : goal.text_of-requires
text_of-requires c = ap has_float (list_ends verdict_data verdict_of c.args.verdicts.now c.loop-one.one-index c.loop-one.list c.loop-one-test.false c.loop-one.invariant) ∙ all_verdicts_plain (map verdict_of c.args.verdicts.now)

pub returns : goal.returns
returns c = subst (λ (d : Data). IfOk c.text_of.result (λ text. text.items ≡ json_text d)) (list_ends verdict_data verdict_of c.args.verdicts.now c.loop-one.one-index c.loop-one.list c.loop-one-test.false c.loop-one.invariant) c.text_of.ensures
