use Rattle.std.specs.Str.{IsUtf8}
use Rattle.script_text.proofs.Common.{string_bytes, texts, word_at, ◌∙◌, ◌≡◌}
use Rattle.script_text.proofs.Entering.{label_is_text}
use Rattle.script_text.proofs.parts.named_of.Goals as goal

pub returns : goal.returns
returns c =
    let word = rw c.deref-3.ensures.value at c.word_at.ensures in
    let text : IsUtf8 c.word_at.result.now = rw word (label_is_text _ c.requires) in
    let label : string_bytes c.in_ok-label.label ≡ word_at (texts c.args.line.now.words.items) 1 = c.in_ok-label.ensures.ok text ∙ word in
    let sqe = rw c.deref.ensures.value at c.sqe_of-sqe.ensures in
    let buffer = rw (c.deref-2.ensures.value, sqe) at c.in_ok-buffer.ensures in
    λ i. record { label = label i; entry = sqe i; buffer = buffer i }
