use Rattle.ring_c.proofs.Common.{Turned}
use Rattle.ring_c.proofs.turn.take_ring.Given as goal

abbrev pub invariant-loop-k : goal.invariant-loop-k
invariant-loop-k l = Turned l.board l.fn.poller l.fn.out l.poller l.out
