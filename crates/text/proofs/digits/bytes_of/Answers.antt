use Rattle.hex.specs.Hex.{encode_lower}
use Rattle.hex.proofs.HexLemmas.{decode_of-ok}
use Rattle.text.proofs.Common.{Decides-eqb, ap, slice_eq-Decides, sym, ◌∙◌, ◌≡◌}
use Rattle.text.proofs.Numbers.{true_and_false}
use Rattle.text.proofs.Hexadecimal.{unread_reads, same_bytes}
use Rattle.text.proofs.digits.bytes_of.Goals as goal

pub returns-in-Err : goal.returns-in-Err
returns-in-Err c =
    let r = unread_reads _ _ _ c.unread.ensures c.in-Err.ensures.err in
    record { found = r.0; only = r.1 }

pub returns-then-eq-clause-found : goal.returns-then-eq-clause-found
returns-then-eq-clause-found c =
    let bytes = (decode_of-ok c.args.digits.now _ c.in-Ok.ensures.ok).3 in
    let texts : c.as_bytes.result.now ≡ encode_lower c.in-Ok.bytes.items = c.as_bytes.ensures.value ∙ c.in_ok-spelled.ensures ∙ ap encode_lower c.as_slice.ensures.value in
    let same = (slice_eq-Decides Decides-eqb _ _ _ c.eq.ensures).0 c.if-eq.true in
    (bytes, sym same ∙ texts)

pub returns-then-eq-clause-only : goal.returns-then-eq-clause-only
returns-then-eq-clause-only c = λ bytes are e. same_bytes _ _ _ are e c.in-Ok.ensures.ok

pub returns-else-eq-clause-only : goal.returns-else-eq-clause-only
returns-else-eq-clause-only c = λ bytes are e.
    let same = same_bytes _ _ _ are e c.in-Ok.ensures.ok in
    let texts : c.as_bytes.result.now ≡ c.args.digits.now = c.as_bytes.ensures.value ∙ c.in_ok-spelled.ensures ∙ ap encode_lower (c.as_slice.ensures.value ∙ same) ∙ sym e in
    true_and_false ((slice_eq-Decides Decides-eqb _ _ _ c.eq.ensures).1 texts) c.if-eq.false
