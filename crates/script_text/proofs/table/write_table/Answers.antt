use Rattle.std.proofs.lemmas.Slice.Zip.{Zip-more, either_empty_from_Zip}
use Rattle.script_text.proofs.TableLines.{wrote_more, wrote_all}
use Rattle.script_text.proofs.table.write_table.Goals as goal

pub loop-entry-preserved : goal.loop-entry-preserved
loop-entry-preserved c =
    let turn = Zip-more c.loop-entry.entry-iterator c.next.new.self c.next.result (c.in-Some.entry, c.in-Some.line) c.in-Some.is c.next.ensures.steps in
    wrote_more _ _ _ _ c.in-Some.entry.now c.in-Some.line.now _ _ _ turn.0 turn.1 c.loop-entry.invariant c.in_ok-push_entry.ensures

pub returns : goal.returns
returns c =
    let end = either_empty_from_Zip c.loop-entry.entry-iterator c.next.new.self c.next.result c.in-None.is c.next.ensures.steps in
    wrote_all _ _ _ _ c.loop-entry.invariant end
