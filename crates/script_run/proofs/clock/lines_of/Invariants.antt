use Rattle.script_run.proofs.Common.{AreClockLines, take}
use Rattle.script_run.proofs.clock.lines_of.Given as goal

abbrev pub invariant-loop-act : goal.invariant-loop-act
invariant-loop-act l = AreClockLines l.script (take l.act-index l.act-items) l.lines.items
