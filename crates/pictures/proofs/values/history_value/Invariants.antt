-- The events so far, and those that are left, are all.
use Rattle.pictures.proofs.Common.{[], drop, events_after, map, take, view, ◌++◌, ◌≡◌}
use Rattle.pictures.proofs.values.history_value.Given as goal

abbrev pub invariant-loop-place : goal.invariant-loop-place
invariant-loop-place l = map view l.made.items ++ events_after l.script (take l.place l.events) (drop l.place l.events) ≡ events_after l.script [] l.events
