use Rattle.commands.proofs.Common.{map, rows_of}
use Rattle.commands.proofs.Problems.{verdict_holds}
use Rattle.commands.proofs.checking.verdict_on.Goals as goal

pub returns-clause-verdict : goal.returns-clause-verdict
returns-clause-verdict c =
    verdict_holds c.args.script.now c.args.bytes.now (map rows_of c.in_ok-tables.tables.items) (map rows_of c.args.listed.now) c.are_listed.result c.in_ok-tables.ensures.found (rw c.deref.ensures.value at c.are_listed.ensures) c.requires
