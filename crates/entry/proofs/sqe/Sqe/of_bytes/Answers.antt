use Rattle.std.proofs.lemmas.Bool.{false≢true}
use Rattle.entry.proofs.Common.{Entry, Says, invalid_of, length, rules, subst, sym, ◌∙◌, ◌≡◌}
use Rattle.entry.proofs.NumberBytes.{IsBytes}
use Rattle.entry.proofs.RowMeaning.{Reads-text, Says-other, Says-plain, text-valid}
use Rattle.entry.proofs.sqe.Sqe.of_bytes.Goals as goal

says : (c : goal.After-of_row) → Says c.args.bytes.now c.of_row.result
says c =
    let len : length c.args.bytes.now ≡ 64 = search rules in
    let are : IsBytes c.args.bytes.now = c.fits-bytes in
    Says-plain c.args.bytes.now c.row_at.result c.u64_at-user_data.result c.of_row.result len are
    (sym c.is_plain.ensures ∙ c.if-is_plain.true) c.row_at.ensures c.u64_at-user_data.ensures c.of_row.ensures.says

pub returns-then-is_plain-clause-says : goal.returns-then-is_plain-clause-says
returns-then-is_plain-clause-says c = says c

pub returns-then-is_plain-clause-again : goal.returns-then-is_plain-clause-again
returns-then-is_plain-clause-again c e fit is =
    let reads = Reads-text c.args.bytes.now e fit is in
    c.of_row.ensures.again e fit (c.row_at.ensures ∙ reads.row) reads.flags (c.u64_at-user_data.ensures ∙ reads.user_data)

pub returns-then-is_plain-clause-back : goal.returns-then-is_plain-clause-back
returns-then-is_plain-clause-back c = text-valid c.args.bytes.now c.of_row.result (says c)

pub returns-else-is_plain-clause-says : goal.returns-else-is_plain-clause-says
returns-else-is_plain-clause-says c =
    let same : invalid_of c.args.bytes.now ≡ c.invalid.result = search rules in
    let P : Entry → Type 0 = Says c.args.bytes.now in
    subst P same (Says-other c.args.bytes.now (sym c.is_plain.ensures ∙ c.if-is_plain.false))

pub returns-else-is_plain-clause-again : goal.returns-else-is_plain-clause-again
returns-else-is_plain-clause-again c e fit is =
    absurd (false≢true (sym c.if-is_plain.false ∙ c.is_plain.ensures ∙ (Reads-text c.args.bytes.now e fit is).plain))
