use Rattle.runtime.proofs.Common.{Did, HasStopped, HaveWaited, IsStuck, MayRelease, cares_of, length, taken_in, ℕ, ◌<◌, ◌≡◌, ◌≢◌}
use Rattle.runtime.proofs.releasing.take_ring.Given as goal

abbrev pub invariant-loop-k : goal.invariant-loop-k
invariant-loop-k g l = record {
  did : Did l.route.board.now l.route.queue.now l.fn.state l.fn.outbox l.state l.outbox;
  may : MayRelease l.route.board.now l.route.queue.now l.state (cares_of l.lists) l.outbox;
  rings : length l.lists.rings.items ≡ length l.fn.lists.rings.items;
  there : l.ring < length l.fn.lists.rings.items;
  places : l.lists.waiting.places ≡ l.fn.lists.waiting.places;
  waited : HaveWaited l.fn.state.poller l.state.poller l.fn.lists.waiting.items l.lists.waiting.items;
  taken : taken_in l.lists.rings.items l.ring ≡ l.k;
  others : (i : ℕ) → i ≢ l.ring → taken_in l.lists.rings.items i ≡ taken_in l.fn.lists.rings.items i;
  stuck : IsStuck l.fn.state → IsStuck l.state;
  stopped : HasStopped l.fn.state l.fn.lists.waiting → HasStopped l.state l.lists.waiting;
}
