use Rattle.ring_c.proofs.Common.{Turned, length, ◌≡◌, ◌≤◌}
use Rattle.ring_c.proofs.turn.go_over.Given as goal

abbrev pub invariant-loop-i : goal.invariant-loop-i
invariant-loop-i l = record {
  turned : Turned l.board l.initial.poller l.initial.out l.poller l.out;
  kept : l.kept ≤ l.i;
  many : length l.held.items ≡ l.i-end;
}
