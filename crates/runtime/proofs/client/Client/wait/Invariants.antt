use Rattle.runtime.proofs.WaitLaws.{Awaits}
use Rattle.runtime.proofs.client.Client.wait.Given as goal

abbrev pub invariant-loop : goal.invariant-loop
invariant-loop g l = Awaits l.fn.self l.self
