use Rattle.std.proofs.lemmas.Int.{to_z-of_z}
use Rattle.text.proofs.Common.{List, ap, data_text, length, shown_count, signed_decimal, sym, w32, ℕ, ◌++◌, ◌∙◌, ◌∷◌, ◌≡◌}
use Rattle.text.proofs.Numbers.{kept_reply}
use Rattle.text.proofs.Lines.{line_parts, line_found, space_is}
use Rattle.text.proofs.Cuts.{IsCut-data}
use Rattle.text.proofs.line.line_at.Goals as goal

pub returns-in_default-behind-clause-only : goal.returns-in_default-behind-clause-only
returns-in_default-behind-clause-only c = λ reply bytes rest is e.
    c.in_default-behind.ensures _ (line_parts _ _ _ reply bytes rest c.in-Some.ensures e)

pub returns-in_default-reply_at-clause-only : goal.returns-in_default-reply_at-clause-only
returns-in_default-reply_at-clause-only c = λ reply bytes rest is e.
    let at_reply = space_is (sym c.in-Some-behind.ensures ∙ line_parts _ _ _ reply bytes rest c.in-Some.ensures e) in
    c.in_default-reply_at.ensures.only reply _ is.reply_fits (IsCut-data bytes rest) at_reply

pub returns-in_default-2-clause-only : goal.returns-in_default-2-clause-only
returns-in_default-2-clause-only c = λ reply bytes rest is e.
    let at_reply = space_is (sym c.in-Some-behind.ensures ∙ line_parts _ _ _ reply bytes rest c.in-Some.ensures e) in
    let read = c.in-Some-reply_at.ensures.only reply _ is.reply_fits (IsCut-data bytes rest) at_reply in
    let found = c.in_ok-data.ensures.only bytes _ is.are_bytes (is.count ∙ ap (shown_count c.args.reads) (sym (kept_reply _ reply is.reply_fits read.0)) ∙ sym c.shown_count.ensures) read.1 in
    rw c.in_default-2.is at found

pub returns-in_default-behind-2-clause-only : goal.returns-in_default-behind-2-clause-only
returns-in_default-behind-2-clause-only c = λ reply bytes rest is e.
    let at_reply = space_is (sym c.in-Some-behind.ensures ∙ line_parts _ _ _ reply bytes rest c.in-Some.ensures e) in
    let read = c.in-Some-reply_at.ensures.only reply _ is.reply_fits (IsCut-data bytes rest) at_reply in
    let found = rw c.in-Some-2.is at (c.in_ok-data.ensures.only bytes _ is.are_bytes (is.count ∙ ap (shown_count c.args.reads) (sym (kept_reply _ reply is.reply_fits read.0)) ∙ sym c.shown_count.ensures) read.1) in
    c.in_default-behind-2.ensures rest found.1

pub returns-clause-found : goal.returns-clause-found
returns-clause-found c =
    let at_reply = c.in-Some-reply_at.ensures.found in
    let found = rw c.in-Some-2.is at c.in_ok-data.ensures.found in
    let kept = to_z-of_z w32 c.in-Some-reply_at.reply at_reply.0 in
    let behind_reply = found.2 ∙ ap (λ (rest : List ℕ). data_text c.in-Some-2.data.items ++ rest) c.in-Some-behind-2.ensures in
    let behind = c.in-Some-behind.ensures ∙ ap (λ (rest : List ℕ). 32 ∷ rest) (at_reply.1 ∙ ap (λ (rest : List ℕ). signed_decimal c.in-Some-reply_at.reply ++ rest) behind_reply) in
    let text = line_found _ _ _ c.in-Some-reply_at.reply c.in-Some-2.data.items _ c.in-Some.ensures behind in
    let count : length c.in-Some-2.data.items ≡ shown_count c.args.reads c.in-Some-reply_at.reply = found.1 ∙ c.shown_count.ensures ∙ ap (shown_count c.args.reads) kept in
    rw kept (record { reply_fits = at_reply.0; are_bytes = found.0; count = count }, text)

pub returns-clause-only : goal.returns-clause-only
returns-clause-only c = λ reply bytes rest is e.
    let at_reply = space_is (sym c.in-Some-behind.ensures ∙ line_parts _ _ _ reply bytes rest c.in-Some.ensures e) in
    let read = c.in-Some-reply_at.ensures.only reply _ is.reply_fits (IsCut-data bytes rest) at_reply in
    let found = rw c.in-Some-2.is at (c.in_ok-data.ensures.only bytes _ is.are_bytes (is.count ∙ ap (shown_count c.args.reads) (sym (kept_reply _ reply is.reply_fits read.0)) ∙ sym c.shown_count.ensures) read.1) in
    (kept_reply _ reply is.reply_fits read.0, found.0, space_is (sym c.in-Some-behind-2.ensures ∙ found.1))
