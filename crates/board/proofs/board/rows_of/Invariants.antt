use Rattle.std.specs.Prelude.{◌≡◌, ℕ, [], length, slice_get, Some}
use Rattle.board.proofs.Common.{Kept, KnowsRow}
use Rattle.board.proofs.board.rows_of.Given as goal

-- the rings so far have their rows
abbrev pub invariant-loop-ring : goal.invariant-loop-ring
invariant-loop-ring l = record {
  count : length l.rows.items ≡ l.ring;
  each : (i : ℕ) (r : Kept) → slice_get l.rows.items i ≡ Some r → KnowsRow l.grid [] i r;
}
