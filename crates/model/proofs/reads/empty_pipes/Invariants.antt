use Rattle.model.specs.Fresh.{empty_pipe}
use Rattle.model.proofs.Common.{map, take, ◌≡◌}
use Rattle.model.proofs.reads.empty_pipes.Given as goal

abbrev pub invariant-loop-cap : goal.invariant-loop-cap
invariant-loop-cap l = l.all.items ≡ map empty_pipe (take l.cap-index l.caps)
