use Rattle.script_run.proofs.Common.{AreNew, client_of, length, map, reverse, vec_capacity, ◌++◌, ◌+◌, ◌≡◌, ◌≤◌}
use Rattle.script_run.proofs.run.actors_of.Given as goal

abbrev pub invariant-loop-client : goal.invariant-loop-client
invariant-loop-client l = record {
  order : map client_of l.actors.items ++ reverse l.clients.items ≡ l.fn.clients.items;
  new : AreNew l.actors.items;
  room : length l.actors.items + length l.clients.items ≤ vec_capacity l.actors;
}

abbrev pub decreases-loop-client : goal.decreases-loop-client
decreases-loop-client l = length l.clients.items
