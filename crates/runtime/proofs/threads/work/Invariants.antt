use Rattle.runtime.proofs.Common.{IsServing, widest, ◌≡◌, ◌≤◌}
use Rattle.runtime.proofs.threads.work.Given as goal

abbrev pub invariant-loop : goal.invariant-loop
invariant-loop g l = record {
  desk : IsServing l.context.shared.now l.desk l.worker;
  places : widest l.context.shared.now.board.layout.cells ≤ l.outbox.places;
  share : l.desk.ready.share ≡ l.fn.side.desk.ready.share;
}
