use Rattle.steps.specs.Fairness.{IsFree}
use Rattle.board.specs.Queues.{nth}
use Rattle.runtime.proofs.Common.{Pass, seen_of, subst, sym, ℕ, ◌+◌}
use Rattle.runtime.proofs.client.Client.submit_and_wait.Goals as goal

pub returns-clause-free : goal.returns-clause-free
returns-clause-free g c = λ (i : ℕ) lt. subst (λ (p : Pass). IsFree c.args.self.now.board.layout.cells (seen_of p) (nth c.in_ok-req.req.ring (c.in_ok-req.req.k + i))) (sym c.await_held.ensures.same.4) (c.in_ok-req.ensures.free i lt)
