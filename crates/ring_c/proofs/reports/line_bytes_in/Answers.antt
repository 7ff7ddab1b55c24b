use Rattle.std.proofs.lemmas.Option.{slice_get_read}
use Rattle.ring_c.proofs.Common.{Bool, Completion, List, Report, Shows, ap, inl, refl, subst, sym, ℕ, ◌∙◌}
use Rattle.ring_c.proofs.ReportLines.{given_bytes}
use Rattle.ring_c.proofs.reports.line_bytes_in.Goals as goal

pub returns-clause-bytes : goal.returns-clause-bytes
returns-clause-bytes c = given_bytes c.args.index _ _ _ c.lines-lines.result.now _ (c.in-Report.is ∙ ap (λ (lines : List (Completion × Bool)). Report lines) (sym c.lines-lines.ensures))
    (inl (c.index-lines-index.result, slice_get_read _ _ _ _ refl c.if-lines-index.false c.index-lines-index.is, subst (λ (bs : List ℕ). Shows bs c.args.out.now c.copy_bytes.new.out c.copy_bytes.result) c.as_slice.ensures.value c.copy_bytes.ensures))
