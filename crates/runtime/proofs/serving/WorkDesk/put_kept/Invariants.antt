use Rattle.std.specs.Prelude.{◌≡◌, ◌≤◌, length}
use Rattle.ready.specs.Ready.{IsQueuePass}
use Rattle.runtime.proofs.Common.{PutsBack}
use Rattle.runtime.proofs.serving.WorkDesk.put_kept.Given as goal

-- those so far are in the queue
abbrev pub invariant-loop-req : goal.invariant-loop-req
invariant-loop-req g l = record {
  own : IsQueuePass l.queue l.self-inside.ready;
  back : PutsBack l.fn.self (record { ready = l.self-inside.ready; kept = l.self-inside.kept.items; places = l.self-inside.kept.places });
  few : (length l.self-inside.kept.items ≤ length l.fn.self.kept) × (l.self-inside.kept.places ≡ l.fn.self.places);
}

abbrev pub decreases-loop-req : goal.decreases-loop-req
decreases-loop-req g l = length l.self-inside.kept.items
