use Rattle.wheel.proofs.timers.TimersTimerSet.due.Given as goal

abbrev pub ghosts-due_by : goal.ghosts-due_by
ghosts-due_by a = record { name = a.blank.name; parts = a.blank.parts }
