use Rattle.std.specs.Prelude.{◌≡◌, ◌≤◌}
use Rattle.board.proofs.Common.{AreTaken, IsEmptied, slots_filled, slots_items, slots_len, slots_of, vec_capacity}
use Rattle.board.proofs.last_cells.take_cells.Given as goal

-- the first x cells are taken
abbrev pub invariant-loop-x : goal.invariant-loop-x
invariant-loop-x l = record {
  words : l.closed.words ≡ l.fn.closed.words;
  items : slots_items l.closed.slots ≡ slots_items l.fn.closed.slots;
  count : slots_len l.closed.slots ≡ slots_len l.fn.closed.slots;
  emptied : IsEmptied (slots_filled l.fn.closed.slots) (slots_filled l.closed.slots) (slots_of 0) (slots_of l.x);
  taken : AreTaken (slots_items l.fn.closed.words) (slots_items l.fn.closed.slots) l.x l.last_cells.claims.items l.last_cells.slots.items;
  claims : l.cells ≤ vec_capacity l.last_cells.claims;
  room : l.cells ≤ vec_capacity l.last_cells.slots;
}
