-- The batch is the line's, and each try so far was in vain.
use Rattle.script_run.proofs.Common.{AreEntries, Submit, TriedInVain, Went}
use Rattle.script_run.proofs.lines.submit_line.Given as goal

abbrev pub invariant-loop-try : goal.invariant-loop-try
invariant-loop-try g l = record {
  went : Went l.fn.actor l.actor;
  batch : AreEntries l.stage.script.now l.places.items l.batch.items;
  tried : TriedInVain l.stage.script.now (Submit l.places) l._try l.fn.actor l.actor;
}
