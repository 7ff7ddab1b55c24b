use Rattle.event_count.proofs.event_count.EventCount.notify.Given as goal

abbrev pub ghosts-notify_by : goal.ghosts-notify_by
ghosts-notify_by a = record { name = a.blank.name; parts = a.blank.parts }
