use Rattle.text.proofs.Common.{Decides-eqb, ap, decimal, parse-decimal, slice_eq-Decides, sym, ◌∙◌, ◌≡◌}
use Rattle.text.proofs.Numbers.{decimal_is_text, true_and_false}
use Rattle.text.proofs.number.digits_of.Goals as goal

pub returns-in_default-clause-only : goal.returns-in_default-clause-only
returns-in_default-clause-only c = λ n lt e. absurd (c.in_default.ensures.cases.0 (decimal_is_text n c.args.word.now lt e))

pub returns-in_default-parse-clause-only : goal.returns-in_default-parse-clause-only
returns-in_default-parse-clause-only c = λ n lt e.
    absurd (c.in_default-parse.not-Ok n (parse-decimal 64 n c.in-Ok.text.now _ lt lt (c.in-Ok.ensures.cases.0 ∙ e) c.parse.ensures.value.0))

pub returns-then-eq-clause-only : goal.returns-then-eq-clause-only
returns-then-eq-clause-only c = λ n lt e.
    let read = parse-decimal 64 n c.in-Ok.text.now _ lt lt (c.in-Ok.ensures.cases.0 ∙ e) c.parse.ensures.value.0 in
    cc

pub returns-else-eq-clause-only : goal.returns-else-eq-clause-only
returns-else-eq-clause-only c = λ n lt e.
    let read = parse-decimal 64 n c.in-Ok.text.now _ lt lt (c.in-Ok.ensures.cases.0 ∙ e) c.parse.ensures.value.0 in
    let same : c.in-Ok-parse.number ≡ n = cc in
    let texts : c.as_bytes.result.now ≡ c.args.word.now = c.as_bytes.ensures.value ∙ c.format.ensures.text ∙ ap decimal same ∙ sym e in
    true_and_false ((slice_eq-Decides Decides-eqb _ _ _ c.eq.ensures).1 texts) c.if-eq.false
