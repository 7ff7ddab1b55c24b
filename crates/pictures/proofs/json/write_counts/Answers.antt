use Rattle.pictures.proofs.Common.{Data, IfOk, ap, has_float, json_text, map, subst, counted_data, counted_of, ◌∙◌, ◌≡◌}
use Rattle.pictures.proofs.JsonValues.{list_ends, all_counted_plain}
use Rattle.pictures.proofs.json.write_counts.Goals as goal

pub text_of-requires : goal.text_of-requires
text_of-requires c = ap has_float (list_ends (counted_data c.args.script.now) counted_of c.args.counts.now c.loop-one.one-index c.loop-one.list c.loop-one-test.false c.loop-one.invariant) ∙ all_counted_plain c.args.script.now (map counted_of c.args.counts.now)

pub returns : goal.returns
returns c = subst (λ (d : Data). IfOk c.text_of.result (λ text. text.items ≡ json_text d)) (list_ends (counted_data c.args.script.now) counted_of c.args.counts.now c.loop-one.one-index c.loop-one.list c.loop-one-test.false c.loop-one.invariant) c.text_of.ensures
