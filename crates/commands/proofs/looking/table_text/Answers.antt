use Rattle.commands.proofs.Common.{rows_of}
use Rattle.commands.proofs.Problems.{look_none}
use Rattle.commands.proofs.looking.table_text.Goals as goal

pub returns-clause-prints : goal.returns-clause-prints
returns-clause-prints g c =
    look_none c.none_text.result c.args.look c.args.script.now c.args.bytes.now (rows_of c.in_ok-table.table) c.in_ok-table.ensures.found (c.in_ok-events.ensures.none c.in-None.is) c.none_text.ensures.text
