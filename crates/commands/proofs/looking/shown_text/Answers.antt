use Rattle.commands.proofs.Problems.{of_first}
use Rattle.commands.proofs.looking.shown_text.Goals as goal

pub returns-in-len1-up-clause-explains : goal.returns-in-len1-up-clause-explains
returns-in-len1-up-clause-explains g c =
    of_first c.table_text.result c.args.script.now c.args.limit c.args.given.now c.first-item.result c.in-len1-up.len_at_least c.first-item.is (rw c.deref.ensures.value at c.table_text.ensures.explains)
