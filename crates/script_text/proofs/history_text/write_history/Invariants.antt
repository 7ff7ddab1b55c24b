use Rattle.script_text.specs.HistoryText.{history_text, text_after}
use Rattle.script_text.proofs.Common.{drop, string_bytes, take, ◌++◌, ◌≡◌}
use Rattle.script_text.proofs.history_text.write_history.Given as goal

-- the lines so far, and those of the events that are left, are the whole text
abbrev pub invariant-loop-place : goal.invariant-loop-place
invariant-loop-place l = string_bytes l.out ++ text_after l.script (take l.place l.events) (drop l.place l.events) ≡ history_text l.script l.events
