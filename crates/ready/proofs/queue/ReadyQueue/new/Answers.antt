use Rattle.ready.proofs.Common.{all_shares, ap, arith, share_of, view, ◌-◌, ◌≡◌}
use Rattle.ready.proofs.Balance.{forks}
use Rattle.ready.proofs.queue.ReadyQueue.new.Goals as goal

pub another-seat-requires-clause-rule : goal.another-seat-requires-clause-rule
another-seat-requires-clause-rule c =
    let p : (view c.loop-n.last).share ≡ all_shares - c.loop-n._n = ap share_of c.loop-n.invariant.view_is in
    forks _ _ (omega arith)
