use Rattle.wheel.proofs.timers.TimersTimerSet.arm.Given as goal

abbrev pub ghosts-arm_by : goal.ghosts-arm_by
ghosts-arm_by a = record { name = a.blank.name; parts = a.blank.parts }
