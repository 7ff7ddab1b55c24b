use Rattle.script_text.specs.Outlined.{Outlines}
use Rattle.script_text.proofs.Common.{above_of, sentences, ◌≡◌}
use Rattle.script_text.proofs.outline.Outline.take_lines.Given as goal

abbrev pub invariant-loop-line : goal.invariant-loop-line
invariant-loop-line l = record {
  number : l.number ≡ l.line-index;
  outlines : Outlines (above_of (sentences l.lines) l.line-index) l.self;
}
