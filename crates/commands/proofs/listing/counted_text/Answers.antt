use Rattle.commands.proofs.Listings.{tables_more}
use Rattle.commands.proofs.listing.counted_text.Goals as goal

pub loop-table-preserved : goal.loop-table-preserved
loop-table-preserved c =
    let wrote = rw (c.deref.ensures.value, c.in_ok-write_table.ensures) at c.in_ok-extend_from_slice.ensures.items in
    tables_more c.args.script.now c.args.tables.now c.loop-table.table-index c.table-item.result _ _ _ _ c.loop-table-test.true c.table-item.is c.loop-table.invariant wrote c.in_ok-push.ensures.items
