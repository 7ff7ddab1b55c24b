use Rattle.ring_c.proofs.Common.{AreRead, length, take, vec_capacity, ◌≡◌, ◌≤◌}
use Rattle.ring_c.proofs.batch.batch_of.Given as goal

abbrev pub invariant-loop-i : goal.invariant-loop-i
invariant-loop-i l = record {
  count : length l.batch.items ≡ l.i;
  room : l.count ≤ vec_capacity l.batch;
  low : l.from ≤ length l.bytes;
  read : AreRead l.entries (take l.from l.bytes) l.batch.items;
}
