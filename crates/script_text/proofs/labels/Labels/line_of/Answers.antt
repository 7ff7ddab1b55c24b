use Rattle.script_text.proofs.Common.{sym, ◌∙◌}
use Rattle.script_text.proofs.Indexed.{line_there, no_line_there}
use Rattle.script_text.proofs.labels.Labels.line_of.Goals as goal

pub returns-in-Some : goal.returns-in-Some
returns-in-Some c = line_there c.args.self.now.lines.items c.args.label.now c.in-Some.place c.get.result (sym c.place_of.ensures ∙ c.in-Some.is) (rw c.deref.ensures.value at c.get.ensures.lookup)

pub returns-in-None : goal.returns-in-None
returns-in-None c = no_line_there c.args.self.now.lines.items c.args.label.now (sym c.place_of.ensures ∙ c.in-None.is)
