use Rattle.std.proofs.Common.{◌≡◌}
use Rattle.loads.proofs.client.Driver.serve.Given as goal

abbrev pub invariant-loop : goal.invariant-loop
invariant-loop g l = l.self.client.board ≡ l.fn.self.client.board
