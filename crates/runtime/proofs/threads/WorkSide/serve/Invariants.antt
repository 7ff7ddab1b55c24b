use Rattle.runtime.specs.declared.turn.Turn.TheVariants.{Idle}
use Rattle.runtime.proofs.Common.{IsServing, [], widest, ◌≡◌, ◌≤◌}
use Rattle.runtime.proofs.threads.WorkSide.serve.Given as goal

abbrev pub invariant-loop-run : goal.invariant-loop-run
invariant-loop-run g l = record {
  desk : IsServing l.context.shared.now l.desk l.worker;
  places : widest l.context.shared.now.board.layout.cells ≤ l.outbox.places;
  idle : l.last ≡ Idle → l.desk.kept ≡ [];
  share : l.desk.ready.share ≡ l.fn.self.desk.ready.share;
}
