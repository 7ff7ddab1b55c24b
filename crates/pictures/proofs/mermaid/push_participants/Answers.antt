use Rattle.pictures.proofs.Common.{arith, participants, refl, ◌+◌}
use Rattle.pictures.proofs.Turns.{counts}
use Rattle.pictures.proofs.mermaid.push_participants.Goals as goal

pub loop-column-preserved : goal.loop-column-preserved
loop-column-preserved c =
    let rings = c.args.columns.now.rings in let workers = c.args.columns.now.workers in
    let le = c.loop-column-test.true in let end = c.last-column-end.ensures in
    counts (participants rings workers) (rings + workers + 2 + 1) c.loop-column.column-counter _ _ _ _ (omega arith) (λ k. refl) c.loop-column.invariant (rw c.in_ok-name.ensures at c.in_ok-writeln.ensures.bytes)
