use Rattle.wheel.proofs.Common.{Runs, take}
use Rattle.wheel.proofs.calls.run.Given as goal

abbrev pub invariant-loop-call : goal.invariant-loop-call
invariant-loop-call g l = Runs (g.T.TimerSet.deadline l.fn.timers) (take l.call-index l.calls) l.answers.items (g.T.TimerSet.deadline l.timers)
