use Rattle.ring_c.proofs.Common.{Turned}
use Rattle.ring_c.proofs.turn.take_up.Given as goal

abbrev pub invariant-loop-ring : goal.invariant-loop-ring
invariant-loop-ring l = Turned l.board l.initial.poller l.initial.out l.poller l.out
