use Rattle.text.proofs.Common.{IsCutByte, slice_index, ℕ, ◌<◌}
use Rattle.text.proofs.line.word_at.Given as goal

abbrev pub invariant-loop-i : goal.invariant-loop-i
invariant-loop-i l = (k : ℕ) → k < l.i → IsCutByte (slice_index l.bytes k) → ⊥
