use Rattle.pictures.proofs.Counts.{counts_more}
use Rattle.pictures.proofs.texts.counts_text.Goals as goal

pub loop-one-preserved : goal.loop-one-preserved
loop-one-preserved c =
    let first = rw (c.deref.ensures.value, c.in_ok-write_table.ensures) at c.in_ok-extend_from_slice.ensures.items in
    counts_more c.args.script.now c.args.counts.now c.loop-one.one-index c.one-item.result _ _ _ _ c.loop-one-test.true c.one-item.is c.loop-one.invariant first c.in_ok-push_times.ensures
