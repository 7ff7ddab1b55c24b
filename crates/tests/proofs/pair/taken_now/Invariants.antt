use Rattle.std.proofs.Common.{◌≡◌}
use Rattle.tests.proofs.pair.taken_now.Given as goal

abbrev pub invariant-loop-look : goal.invariant-loop-look
invariant-loop-look g l = l.client.board ≡ l.fn.client.board
