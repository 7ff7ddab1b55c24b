-- Each look so far was in vain.
use Rattle.script.specs.declared.act.Act.TheVariants.{Wait}
use Rattle.script_run.proofs.Common.{TriedInVain, Went}
use Rattle.script_run.proofs.lines.wait.Given as goal

abbrev pub invariant-loop-try : goal.invariant-loop-try
invariant-loop-try g l = record {
  went : Went l.fn.actor l.actor;
  tried : TriedInVain l.stage.script.now (Wait l.place) l._try l.fn.actor l.actor;
}
