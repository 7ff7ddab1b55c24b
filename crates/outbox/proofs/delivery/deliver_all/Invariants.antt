use Rattle.std.proofs.Common.{◌≡◌, ◌++◌, length, take, drop}
use Rattle.outbox.specs.Outbox.{HasPosted, of_ring, others}
use Rattle.outbox.proofs.delivery.deliver_all.Given as goal

abbrev pub invariant-loop-n : goal.invariant-loop-n
invariant-loop-n l = record {
  count : l.count ≡ length l.fn.outbox.items;
  posted : HasPosted (of_ring l.of (take l.n l.fn.outbox.items)) l.fn.ring l.ring;
  now : l.outbox.items ≡ drop l.n l.fn.outbox.items ++ others l.of (take l.n l.fn.outbox.items);
  places : l.outbox.places ≡ l.fn.outbox.places;
}
