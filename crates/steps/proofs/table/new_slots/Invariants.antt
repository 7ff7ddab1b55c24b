use Rattle.steps.proofs.NewSlots.{PipesUpTo, CellsUpTo}
use Rattle.steps.proofs.table.new_slots.Given as goal

abbrev pub invariant-loop-p : goal.invariant-loop-p
invariant-loop-p l = PipesUpTo l.caps l.rows l.p l.slots.items

abbrev pub invariant-loop : goal.invariant-loop
invariant-loop l = CellsUpTo l.caps l.rows l.counter l.slots.items
