use Rattle.script_run.proofs.Common.{AreEntries, take}
use Rattle.script_run.proofs.lines.batch_of.Given as goal

abbrev pub invariant-loop-place : goal.invariant-loop-place
invariant-loop-place l = AreEntries l.stage.script.now (take l.place-index l.places) l.batch.items
