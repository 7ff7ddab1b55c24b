use Rattle.runtime.proofs.Common.{AreHeldBack, Did, IfOk, IsStuck, MayRelease, cares_of, ◌≡◌, ◌⊎◌}
use Rattle.runtime.proofs.HeldBack.{Passed}
use Rattle.runtime.proofs.releasing.release_waiting.Given as goal

abbrev pub invariant-loop-n : goal.invariant-loop-n
invariant-loop-n g l = record {
  did : Did l.route.board.now l.route.queue.now l.fn.state l.fn.outbox l.state l.outbox;
  may : MayRelease l.route.board.now l.route.queue.now l.state (cares_of l.lists) l.outbox;
  rings : l.lists.rings ≡ l.fn.lists.rings;
  places : l.lists.waiting.places ≡ l.fn.lists.waiting.places;
  passed : Passed l.lists.waiting.items l._n l._n-end (λ done. IfOk l.outcome (λ _. AreHeldBack l.fn.state.poller l.state.poller done ⊎ IsStuck l.state));
}
