use Rattle.text.proofs.Common.{Decides-eqb, Some, ap, parse-signed_decimal, signed_decimal, slice_eq-Decides, sym, w32, ◌∙◌, ◌≡◌}
use Rattle.text.proofs.Numbers.{signed_is_text, mag_small, ok_is, kept_reply, true_and_false}
use Rattle.text.proofs.number.reply_of.Goals as goal

pub returns-in_default-clause-only : goal.returns-in_default-clause-only
returns-in_default-clause-only c = λ z fits e. absurd (c.in_default.ensures.cases.0 (signed_is_text z c.args.word.now fits e))

pub returns-in_default-parse-clause-only : goal.returns-in_default-parse-clause-only
returns-in_default-parse-clause-only c = λ z fits e.
    absurd (c.in_default-parse.not-Ok z (parse-signed_decimal w32 z c.in-Ok.text.now _ fits (mag_small z fits) (c.in-Ok.ensures.cases.0 ∙ e) c.parse.ensures.value.0))

pub returns-then-eq-clause-only : goal.returns-then-eq-clause-only
returns-then-eq-clause-only c = λ z fits e.
    let read = parse-signed_decimal w32 z c.in-Ok.text.now _ fits (mag_small z fits) (c.in-Ok.ensures.cases.0 ∙ e) c.parse.ensures.value.0 in
    ap Some (kept_reply _ z fits (ok_is (sym c.in-Ok-parse.is ∙ read)))

pub returns-else-eq-clause-only : goal.returns-else-eq-clause-only
returns-else-eq-clause-only c = λ z fits e.
    let read = parse-signed_decimal w32 z c.in-Ok.text.now _ fits (mag_small z fits) (c.in-Ok.ensures.cases.0 ∙ e) c.parse.ensures.value.0 in
    let same = kept_reply _ z fits (ok_is (sym c.in-Ok-parse.is ∙ read)) in
    let texts : c.as_bytes.result.now ≡ c.args.word.now = c.as_bytes.ensures.value ∙ c.format.ensures.text ∙ ap signed_decimal same ∙ sym e in
    true_and_false ((slice_eq-Decides Decides-eqb _ _ _ c.eq.ensures).1 texts) c.if-eq.false
