use Rattle.std.specs.Prelude.{◌≡◌}
use Rattle.board.proofs.Common.{IsEmptied, slots_filled, slots_items, slots_len}
use Rattle.board.proofs.last_cells.drop_slots.Given as goal

abbrev pub invariant-loop-p : goal.invariant-loop-p
invariant-loop-p l = record {
  words : l.closed.words ≡ l.fn.closed.words;
  items : slots_items l.closed.slots ≡ slots_items l.fn.closed.slots;
  count : slots_len l.closed.slots ≡ slots_len l.fn.closed.slots;
  emptied : IsEmptied (slots_filled l.fn.closed.slots) (slots_filled l.closed.slots) l.from l.p;
}
