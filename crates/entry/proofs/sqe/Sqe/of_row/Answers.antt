use Rattle.entry.specs.Text.{layout}
use Rattle.entry.proofs.Common.{Entry, Says, rules, subst, sym, ℕ}
use Rattle.entry.proofs.RowMeaning.{Says-none, Says-row, refused}
use Rattle.entry.proofs.EntryBytes.{InTypes}
use Rattle.entry.proofs.sqe.Sqe.of_row.Goals as goal

pub returns-then-is_written_as-clause-says : goal.returns-then-is_written_as-clause-says
returns-then-is_written_as-clause-says c =
    let types : InTypes c.args.row c.args.flags c.args.user_data = search rules in
    let h = c.is_written_as.ensures.0 c.if-is_written_as.true in
    let says = Says-row c.args.row c.args.flags c.args.user_data c.candidate-op.result types h.0 h.1 h.2 in
    let P : ℕ → Type 0 = λ f. Says (layout c.args.row c.args.flags c.args.user_data) (record { user_data = c.args.user_data; flags = f; op = c.candidate-op.result }) in
    subst P (sym (c.from_bits_retain.ensures tt)) says

pub returns-else-is_written_as-clause-says : goal.returns-else-is_written_as-clause-says
returns-else-is_written_as-clause-says c =
    let types : InTypes c.args.row c.args.flags c.args.user_data = search rules in
    let says = Says-none c.args.row c.args.flags c.args.user_data types (λ e valid fit row flags. refused c.args.row c.args.flags c.candidate-op.result c.is_written_as.result c.is_written_as.ensures c.if-is_written_as.false c.candidate-op.ensures.only e fit row flags) in
    let P : Entry → Type 0 = Says (layout c.args.row c.args.flags c.args.user_data) in
    subst P (sym c.invalid.ensures) says

pub returns-else-is_written_as-clause-again : goal.returns-else-is_written_as-clause-again
returns-else-is_written_as-clause-again c e fit row flags user_data =
    absurd (refused c.args.row c.args.flags c.candidate-op.result c.is_written_as.result c.is_written_as.ensures c.if-is_written_as.false c.candidate-op.ensures.only e fit row flags)
