-- Tables that compare as equal have the same rows, and the other way round.
use Rattle.explore.proofs.TableOrder.{same_rows, tables_same}
use Rattle.checks.proofs.Common.{ap, is_equal, refl, rows_cmp, rows_of, sym, true≢false, ◌∙◌}
use Rattle.checks.proofs.Members.{not_equal, table_rows}
use Rattle.checks.proofs.listed.are_same.Goals as goal

pub returns-in-Equal-clause-same : goal.returns-in-Equal-clause-same
returns-in-Equal-clause-same c = ((λ _. same_rows c.args.a.now c.args.b.now (sym c.in-Equal.ensures)), (λ _. refl))

pub returns-in-Equal-clause-value : goal.returns-in-Equal-clause-value
returns-in-Equal-clause-value c = ap is_equal (c.in-Equal.ensures ∙ table_rows c.args.a.now c.args.b.now)

pub returns-in_default : goal.returns-in_default
returns-in_default c = record {
  same = ((λ t. absurd (true≢false (sym t))), (λ e. absurd (c.in_default.not-Equal (c.cmp.ensures ∙ tables_same c.args.a.now c.args.b.now e))));
  value = not_equal (rows_cmp (rows_of c.args.a.now) (rows_of c.args.b.now)) (λ e. c.in_default.not-Equal (c.cmp.ensures ∙ (table_rows c.args.a.now c.args.b.now ∙ e)));
}
