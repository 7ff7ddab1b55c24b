use Rattle.std.proofs.lemmas.Option.{slice_get_read}
use Rattle.ring_c.proofs.Common.{Bool, Completion, List, Report, ap, refl, rules, sym, ◌∙◌}
use Rattle.ring_c.proofs.ReportLines.{told_line}
use Rattle.ring_c.proofs.reports.line_in.Goals as goal

pub returns : goal.returns
returns c = told_line c.args.index _ c.lines-lines.result.now _ (c.in-Report.is ∙ ap (λ (lines : List (Completion × Bool)). Report lines) (sym c.lines-lines.ensures))
    (c.index-lines-index.result, slice_get_read _ _ _ _ refl c.if-lines-index.false c.index-lines-index.is, search rules)
