use Rattle.commands.proofs.Problems.{many_runs}
use Rattle.commands.proofs.runs.runs_text.Goals as goal

pub returns-clause-prints : goal.returns-clause-prints
returns-clause-prints g c =
    many_runs c.many_text.result c.args.script.now c.args.runs.workers c.args.runs.times c.in-Some.field-0 c.args.json c.in_ok-tables.tables.items c.in-Some.is c.in_ok-tables.ensures.are c.in_ok-tables.ensures.many (rw c.deref-in-Some.ensures.value at c.many_text.ensures.text)
