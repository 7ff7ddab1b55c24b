use Rattle.script_text.proofs.Common.{Stands, [], above_of, faults_at, reverse, sentences, stated_in, ℕ, ◌<◌, ◌≡◌}
use Rattle.script_text.proofs.reading.parts_of.Given as goal

abbrev pub invariant-loop-line : goal.invariant-loop-line
invariant-loop-line l = record {
  number : l.number ≡ l.line-index;
  faultless : (k : ℕ) → k < l.line-index → faults_at (sentences l.lines) k ≡ [];
  stands : Stands (stated_in (reverse (sentences l.lines))) (above_of (sentences l.lines) l.line-index) l.parts;
}
