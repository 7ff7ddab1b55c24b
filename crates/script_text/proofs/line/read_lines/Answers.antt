use Rattle.script_text.proofs.Common.{Bor, List, [], ap, arith, get_or-map, length, length-map, map_push, sentence, sentences, take, take_more, texts, ℕ, ◌++◌, ◌<◌, ◌∙◌, ◌∷◌, ◌≡◌}
use Rattle.script_text.proofs.LinesAbove.{none_read, only_more, sentences_more}
use Rattle.script_text.proofs.line.read_lines.Goals as goal

pub loop-text-init : goal.loop-text-init
loop-text-init c = record { read = rw c.new-lines.ensures.items tt; only = rw c.new-lines.ensures.items none_read }

pub loop-text-preserved : goal.loop-text-preserved
loop-text-preserved c =
    let parts = c.args.parts.now in
    let i = c.loop-text.text-index in
    let many = length-map parts (λ (part : Bor (List ℕ)). part.now) in
    let lt : i < length (texts parts) = omega (arith, many, c.loop-text-test.true) in
    let here = get_or-map (λ (part : Bor (List ℕ)). part.now) parts i (record { ref_ptr = (0, 0); now = [] }) [] c.loop-text-test.true in
    let grown = take_more (texts parts) i [] lt ∙ ap (λ (t : List ℕ). take i (texts parts) ++ t ∷ []) here in
    let made : sentences c.push.new.self.items ≡ sentences c.loop-text.lines.items ++ sentence c.in_ok-read_line.field-0 ∷ [] = ap sentences c.in_ok-push.ensures.items ∙ map_push sentence c.loop-text.lines.items c.in_ok-read_line.field-0 in
    record {
      read = rw (grown, made) (sentences_more _ _ _ _ c.loop-text.invariant.read c.in_ok-read_line.ensures.read);
      only = λ ss are. made ∙ only_more _ _ _ _ ss c.loop-text.invariant.only c.in_ok-read_line.ensures.only (rw grown at are);
    }
