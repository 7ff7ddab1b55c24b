use Rattle.runtime.proofs.Common.{length, taken_in, ℕ, ◌≡◌}
use Rattle.runtime.proofs.poll.intakes_of.Given as goal

abbrev pub invariant-loop-ring : goal.invariant-loop-ring
invariant-loop-ring l = record {
  count : length l.intakes.items ≡ l.ring-index;
  none : (i : ℕ) → taken_in l.intakes.items i ≡ 0;
}
