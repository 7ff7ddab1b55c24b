use Rattle.std.proofs.lemmas.Grind.{common_steps}
use Rattle.explore.proofs.Notes.{noted_on}
use Rattle.checks.proofs.Common.{arith, rows_of}
use Rattle.checks.proofs.Members.{among_at}
use Rattle.checks.proofs.explained.explain.Goals as goal

pub unreachable-requires : goal.unreachable-requires
unreachable-requires g c =
    let here = among_at c.args.tables.now c.loop-table.table-index c.table-item.result c.loop-table-test.true c.table-item.is in
    c.in_ok-events.ensures.none c.in_default.is (c.requires (rows_of c.table-item.result) here)

pub returns-in_err-events-clause-noted : goal.returns-in_err-events-clause-noted
returns-in_err-events-clause-noted g c = noted_on _ _ _ _ _ c.loop-table.invariant.noted c.find_history_observed.ensures.noted

pub returns-in_err-push-clause-noted : goal.returns-in_err-push-clause-noted
returns-in_err-push-clause-noted g c = noted_on _ _ _ _ _ c.loop-table.invariant.noted c.find_history_observed.ensures.noted

pub loop-table-preserved : goal.loop-table-preserved
loop-table-preserved g c = record {
  tables = grind (arith, common_steps);
  histories = grind (arith, common_steps);
  noted = noted_on _ _ _ _ _ c.loop-table.invariant.noted c.find_history_observed.ensures.noted;
}
