use Rattle.script_text.proofs.Common.{IsSome, false≢true, sentences}
use Rattle.script_text.proofs.Accepted.{parts_kept}
use Rattle.script_text.proofs.reading.script_of.Goals as goal

pub unreachable-requires : goal.unreachable-requires
unreachable-requires c =
    let kept = parts_kept (sentences c.args.lines.now) c.in_ok-parts.parts c.requires c.in_ok-parts.ensures.faultless c.in_ok-parts.ensures.stands in
    let some : IsSome c.in_ok-script.field-0 = c.in_ok-script.ensures.kept.1 kept in
    false≢true (rw c.in_default.is at some)
