use Rattle.script_text.proofs.Common.{AreSentences, List, Sentence, sentences, take, texts, ◌≡◌}
use Rattle.script_text.proofs.line.read_lines.Given as goal

abbrev pub invariant-loop-text : goal.invariant-loop-text
invariant-loop-text l = record {
  read : AreSentences (take l.text-index (texts l.parts)) (sentences l.lines.items);
  only : (ss : List Sentence) → AreSentences (take l.text-index (texts l.parts)) ss → sentences l.lines.items ≡ ss;
}
