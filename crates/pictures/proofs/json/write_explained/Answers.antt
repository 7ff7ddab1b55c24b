use Rattle.pictures.proofs.Common.{Data, IfOk, ap, explained_data, explained_of, has_float, json_text, map, subst, ◌∙◌, ◌≡◌}
use Rattle.pictures.proofs.JsonValues.{list_ends, all_explained_plain}
use Rattle.pictures.proofs.json.write_explained.Goals as goal

pub text_of-requires : goal.text_of-requires
text_of-requires c = ap has_float (list_ends (explained_data c.args.script.now) explained_of c.args.explained.now c.loop-one.one-index c.loop-one.list c.loop-one-test.false c.loop-one.invariant) ∙ all_explained_plain c.args.script.now (map explained_of c.args.explained.now)

pub returns : goal.returns
returns c = subst (λ (d : Data). IfOk c.text_of.result (λ text. text.items ≡ json_text d)) (list_ends (explained_data c.args.script.now) explained_of c.args.explained.now c.loop-one.one-index c.loop-one.list c.loop-one-test.false c.loop-one.invariant) c.text_of.ensures
