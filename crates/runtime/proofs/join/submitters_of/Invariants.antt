use Rattle.runtime.proofs.Common.{AreClients, AreOf, length, map, reverse, submitter_of, vec_capacity, ◌++◌, ◌+◌, ◌≡◌, ◌≤◌}
use Rattle.runtime.proofs.join.submitters_of.Given as goal

abbrev pub invariant-loop-client : goal.invariant-loop-client
invariant-loop-client l = record {
  order : map submitter_of l.clients.items ++ reverse l.submitters.items ≡ map submitter_of l.fn.clients.items;
  clients : AreClients l.board l.clients.items;
  own : AreOf l.board (reverse l.submitters.items);
  count : length l.submitters.items + length l.clients.items ≡ length l.fn.clients.items;
  room : length l.fn.clients.items ≤ vec_capacity l.submitters;
}

abbrev pub decreases-loop-client : goal.decreases-loop-client
decreases-loop-client l = length l.clients.items
