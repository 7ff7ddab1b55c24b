use Rattle.board.specs.New.{AreSubmitters}
use Rattle.runtime.proofs.Common.{AreNewClients, AreRingers, arc_value, length, reverse, vec_capacity, ◌+◌, ◌≡◌, ◌≤◌}
use Rattle.runtime.proofs.parts.clients_of.Given as goal

abbrev pub invariant-loop-submitter : goal.invariant-loop-submitter
invariant-loop-submitter l = record {
  submitters : AreSubmitters (arc_value l.shared).board 0 l.submitters.items;
  ringers : AreRingers (arc_value l.shared).bell 0 l.ringers.items;
  pairs : length l.ringers.items ≡ length l.submitters.items;
  listening : length l.listeners.items ≡ length l.submitters.items;
  clients : AreNewClients (arc_value l.shared).board (length l.submitters.items) (reverse l.clients.items);
  count : length l.clients.items + length l.submitters.items ≡ length l.fn.parts.submitters.items;
  room : length l.fn.parts.submitters.items ≤ vec_capacity l.clients;
}

abbrev pub decreases-loop-submitter : goal.decreases-loop-submitter
decreases-loop-submitter l = length l.submitters.items
