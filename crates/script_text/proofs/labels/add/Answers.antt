use Rattle.script_text.proofs.Common.{sym, ◌∙◌}
use Rattle.script_text.proofs.Indexed.{inserted}
use Rattle.script_text.proofs.labels.add.Goals as goal

pub returns-in_ok-insert-clause-added : goal.returns-in_ok-insert-clause-added
returns-in_ok-insert-clause-added c = inserted c.args.places.now c.insert.new.self c.args.label.now c.args.place (sym c.contains_key.ensures ∙ c.if-not-contains_key.true) c.in_ok-insert.ensures.updates
