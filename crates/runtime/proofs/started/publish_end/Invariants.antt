use Rattle.runtime.proofs.Common.{map, without_tail, ◌≡◌}
use Rattle.runtime.proofs.started.publish_end.Given as goal

abbrev pub invariant-loop-client : goal.invariant-loop-client
invariant-loop-client l = map without_tail l.client-items ≡ map without_tail l.fn.clients.items
