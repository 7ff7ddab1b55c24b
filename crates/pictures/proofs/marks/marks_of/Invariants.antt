-- The marks so far, and those of the events that are left, are all.
use Rattle.pictures.proofs.Common.{drop, map, marks, marks_after, shown, take, workers_after, workers_in, ◌++◌, ◌≡◌}
use Rattle.pictures.proofs.marks.marks_of.Given as goal

abbrev pub invariant-loop-place : goal.invariant-loop-place
invariant-loop-place l = record {
  marks : map shown l.made.items ++ marks_after l.script (take l.place l.events) l.workers.items (drop l.place l.events) ≡ marks l.script l.events;
  workers : workers_after l.workers.items (drop l.place l.events) ≡ workers_in l.events;
}
