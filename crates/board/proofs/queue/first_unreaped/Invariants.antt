use Rattle.board.proofs.Common.{IsCellOf, Cell, get_or, ℕ, ◌+◌, ◌<◌, ◌≡◌}
use Rattle.board.proofs.queue.first_unreaped.Given as goal

-- the reaping has come to the requests before the i-th
abbrev pub invariant-loop-i : goal.invariant-loop-i
invariant-loop-i l = (m : ℕ) → m < l.i → (o : Cell) × IsCellOf l.grid l.queue.ring (l.queue.next + m) o × (get_or l.queue.ages.items o.number 0 ≡ o.generation)
