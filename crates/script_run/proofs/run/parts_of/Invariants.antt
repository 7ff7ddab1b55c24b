use Rattle.script_run.proofs.Common.{client_of, false, length, map, reverse, taken_by, vec_capacity, ◌++◌, ◌+◌, ◌≡◌, ◌≤◌}
use Rattle.script_run.proofs.run.parts_of.Given as goal

abbrev pub invariant-loop-actor : goal.invariant-loop-actor
invariant-loop-actor l = record {
  clients : l.clients.items ++ map client_of (reverse l.actors.items) ≡ map client_of l.fn.actors.items;
  taken : l.is_short ≡ false → l.all.items ++ taken_by (reverse l.actors.items) ≡ taken_by l.fn.actors.items;
  room : length l.clients.items + length l.actors.items ≤ vec_capacity l.clients;
}

abbrev pub decreases-loop-actor : goal.decreases-loop-actor
decreases-loop-actor l = length l.actors.items
