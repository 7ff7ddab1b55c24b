use Rattle.wheel.proofs.Common.{arith}
use Rattle.wheel.proofs.Sorting.{first_due, none_due}
use Rattle.wheel.proofs.sorted.SortedTimersTimerSet.due.Goals as goal

pub returns-then-first-now : goal.returns-then-first-now
returns-then-first-now c = first_due c.args.self.now c.in_ok-first.first c.args.now c.in_ok-first.ensures.first c.in_ok-first.ensures.sorted (omega arith)

pub returns-else-first-now : goal.returns-else-first-now
returns-else-first-now c = none_due c.args.self.now c.in_ok-first.first c.args.now c.in_ok-first.ensures.first c.in_ok-first.ensures.sorted (omega arith)
