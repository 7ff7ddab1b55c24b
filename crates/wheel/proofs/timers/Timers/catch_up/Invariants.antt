use Rattle.wheel.proofs.timers.Timers.catch_up.Given as goal

abbrev pub ghosts-catch_up_by : goal.ghosts-catch_up_by
ghosts-catch_up_by a = record { name = a.blank.name; parts = a.blank.parts }
