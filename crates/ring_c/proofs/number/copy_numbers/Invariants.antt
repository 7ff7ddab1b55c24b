use Rattle.std.proofs.Common.{drop}
use Rattle.ring_c.specs.Numbers.{number_for}
use Rattle.ring_c.proofs.Common.{map, take, ◌≡◌}
use Rattle.ring_c.proofs.number.copy_numbers.Given as goal

abbrev pub invariant-loop-i : goal.invariant-loop-i
invariant-loop-i l = record {
  put : take l.i l.list ≡ map number_for (take l.i l.reqs);
  rest : drop l.i l.list ≡ drop l.i l.initial.list;
}
