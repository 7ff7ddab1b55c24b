use Rattle.entry.proofs.Common.{rules, sym, ◌∙◌}
use Rattle.entry.proofs.RowTests.{Decides-same_row}
use Rattle.entry.proofs.op.Op.is_written_as.Goals as goal

pub returns-then-flags-allowed_flags : goal.returns-then-flags-allowed_flags
returns-then-flags-allowed_flags c =
    let d = Decides-same_row c.row.result c.args.row.now in
    let h = c.eq.ensures in
    (λ t. (search rules, search rules, sym c.row.ensures ∙ d.0 (sym h ∙ t)), λ p. h ∙ d.1 (c.row.ensures ∙ p.2))
