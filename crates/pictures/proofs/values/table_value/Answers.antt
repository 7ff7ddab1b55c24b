use Rattle.std.proofs.lemmas.Slice.Zip.{either_empty_from_Zip}
use Rattle.pictures.proofs.JsonValues.{rows_end, view_array}
use Rattle.pictures.proofs.values.table_value.Goals as goal

pub returns : goal.returns
returns c =
    let end = either_empty_from_Zip c.loop-entry.entry-iterator c.next.new.self c.next.result c.in-None.is c.next.ensures.steps in
    view_array c.loop-entry.rows _ (rows_end _ _ _ _ c.loop-entry.invariant end)
