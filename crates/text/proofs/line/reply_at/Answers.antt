use Rattle.text.proofs.Common.{sym, ◌∙◌}
use Rattle.text.proofs.Numbers.{kept_reply, some_is}
use Rattle.text.proofs.Cuts.{cut_once, IsUncut-signed}
use Rattle.text.proofs.line.reply_at.Goals as goal

pub returns-in_err-reply-clause-only : goal.returns-in_err-reply-clause-only
returns-in_err-reply-clause-only c = λ reply rest fits cut e.
    let once = cut_once _ _ _ _ c.word_at.ensures.uncut (IsUncut-signed reply fits) c.word_at.ensures.cut cut (sym c.word_at.ensures.whole ∙ e) in
    let read = c.reply_of.ensures.only reply fits once.0 in
    let none = c.in_err-reply.was in
    absurd cc

pub returns-clause-only : goal.returns-clause-only
returns-clause-only c = λ reply rest fits cut e.
    let once = cut_once _ _ _ _ c.word_at.ensures.uncut (IsUncut-signed reply fits) c.word_at.ensures.cut cut (sym c.word_at.ensures.whole ∙ e) in
    let read = c.reply_of.ensures.only reply fits once.0 in
    (kept_reply _ reply fits (some_is (sym c.in_ok-reply.was ∙ read)), once.1)
