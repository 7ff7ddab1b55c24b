use Rattle.bell.proofs.bell.Bell.ring.Given as goal

abbrev pub ghosts-ring_by : goal.ghosts-ring_by
ghosts-ring_by a = record { name = a.blank.name; parts = a.blank.parts }
