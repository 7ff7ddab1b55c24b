use Rattle.std.proofs.Common.{take}
use Rattle.runtime.proofs.Common.{cells_in_all, ◌<◌, ◌^◌, ◌≡◌}
use Rattle.runtime.proofs.poll.places_of.Given as goal

abbrev pub invariant-loop-ring : goal.invariant-loop-ring
invariant-loop-ring l = cells_in_all (take l.ring-index l.rings) < 2 ^ 64 → l.places ≡ cells_in_all (take l.ring-index l.rings)
