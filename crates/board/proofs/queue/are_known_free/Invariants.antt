use Rattle.board.proofs.Common.{IsFree, IsQueue, Seat, Thing, View, Option, cells_in, events_of, nth, ℕ, ◌+◌, ◌/◌, ◌<◌, ◌≡◌, ◌≤◌}
use Rattle.board.proofs.queue.are_known_free.Given as goal

-- the cells of the requests before the i-th are free, and the chains of those that had them are done
abbrev pub invariant-loop-i : goal.invariant-loop-i
invariant-loop-i l = ((m : ℕ) → m < l.i → (l.queue.next + m) / cells_in l.grid l.queue.ring < 16777215) × ((s : Seat (Option Thing) View) → IsQueue s l.queue → l.grid ≡ s.me.0.layout.cells → ((m : ℕ) → m < l.i → IsFree l.grid (events_of s.me.0.seen) (nth l.queue.ring (l.queue.next + m))) × ((d : ℕ) × (l.queue.next + l.i ≤ d + cells_in l.grid l.queue.ring) × IsQueue s (record l.queue { done = d })))
