use Rattle.text.specs.Number.{number_in}
use Rattle.script_text.proofs.Common.{List, all_stated, ap, long_or, target_in, ℕ, ◌∙◌}
use Rattle.script_text.proofs.CancelLines.{cancel_line}
use Rattle.script_text.proofs.TimeoutLines.{timeout_line}
use Rattle.script_text.proofs.entry_line.plain_entry.Goals as goal

pub returns-in-Timeout : goal.returns-in-Timeout
returns-in-Timeout c =
    timeout_line _ c.args.kind _ c.timeout_count.result c.long_or.result c.args.options.count c.etime_bit.result c.args.options.etime_ok c.in-Timeout.is
    (c.long_or.ensures ∙ ap (λ (word : List ℕ). long_or (number_in word)) c.word_at-second.ensures) c.requires.count c.etime_bit.ensures c.requires.etime_ok c.timeout_count.ensures.entry

pub returns-in-Cancel : goal.returns-in-Cancel
returns-in-Cancel c =
    cancel_line _ c.args.kind _ c.cancel_of.result c.target_in.result c.args.options.all c.in-Cancel.is
    (c.target_in.ensures ∙ ap (λ (word : List ℕ). target_in (all_stated c.args.labels.now.lines.items) word) c.word_at-second.ensures) c.requires.all c.cancel_of.ensures
