use Rattle.pictures.proofs.Common.{drop, place_of, ◌+◌, ◌≡◌}
use Rattle.pictures.proofs.workers.place_of.Given as goal

abbrev pub invariant-loop-place : goal.invariant-loop-place
invariant-loop-place l = place_of l.wanted l.workers ≡ l.place + place_of l.wanted (drop l.place l.workers)
