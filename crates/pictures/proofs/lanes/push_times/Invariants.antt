use Rattle.pictures.proofs.Common.{replicate, ◌++◌, ◌-◌, ◌≡◌}
use Rattle.pictures.proofs.lanes.push_times.Given as goal

abbrev pub invariant-loop-done : goal.invariant-loop-done
invariant-loop-done l = l.out.items ++ replicate (l.count - l.done) l.byte ≡ l.fn.out.items ++ replicate l.count l.byte
