use Rattle.wheel.proofs.timers.TimersTimerSet.drop_timer.Given as goal

abbrev pub ghosts-drop_by : goal.ghosts-drop_by
ghosts-drop_by a = record { name = a.blank.name; parts = a.blank.parts }
