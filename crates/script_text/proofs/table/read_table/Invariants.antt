use Rattle.script_text.proofs.Common.{drop, shown_lines}
use Rattle.script_text.proofs.TableLines.{IsSoFar}
use Rattle.script_text.proofs.table.read_table.Given as goal

abbrev pub invariant-loop-entry : goal.invariant-loop-entry
invariant-loop-entry l = IsSoFar l.script.entries.items (drop l.entry-index l.script.entries.items) (shown_lines l.lines.items) l.rest l.bytes
