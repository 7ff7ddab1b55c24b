use Rattle.runtime.proofs.Common.{Did, HasStopped, HaveWaited, IsStuck, IsTaken, MayRelease, cares_of, length, taken_in, ℕ, ◌<◌, ◌≡◌, ◌⊎◌}
use Rattle.runtime.proofs.releasing.take_new.Given as goal

abbrev pub invariant-loop-ring : goal.invariant-loop-ring
invariant-loop-ring g l = record {
  did : Did l.route.board.now l.route.queue.now l.fn.state l.fn.outbox l.state l.outbox;
  may : MayRelease l.route.board.now l.route.queue.now l.state (cares_of l.lists) l.outbox;
  rings : length l.lists.rings.items ≡ length l.fn.lists.rings.items;
  places : l.lists.waiting.places ≡ l.fn.lists.waiting.places;
  waited : HaveWaited l.fn.state.poller l.state.poller l.fn.lists.waiting.items l.lists.waiting.items;
  taken : ((i : ℕ) → i < l.ring → IsTaken l.sleeper.tails (taken_in l.lists.rings.items) i) ⊎ HasStopped l.state l.lists.waiting;
  stuck : IsStuck l.fn.state → IsStuck l.state;
}
