use Rattle.std.proofs.lemmas.Result.{err_from_is_err_and}
use Rattle.script_text.proofs.Common.{[], above_of, arith, below_more, faults_of, refl, reverse, sentence, sentences, stated_in, sym, ◌+◌, ◌∙◌, ◌≡◌}
use Rattle.script_text.proofs.LinesAbove.{above_more, as_many_lines, line_here}
use Rattle.script_text.proofs.ReadingLines.{faults_same, stands_more, told_here}
use Rattle.script_text.proofs.reading.parts_of.Goals as goal

pub loop-line-init : goal.loop-line-init
loop-line-init c = record {
  number = refl;
  faultless = λ k lt. absurd (omega arith);
  stands = c.new-parts.ensures (stated_in (reverse (sentences c.args.lines.now)));
}

pub returns-in_err-take_line-clause-told : goal.returns-in_err-take_line-clause-told
returns-in_err-take_line-clause-told c =
    let ss = sentences c.args.lines.now in
    let i = c.loop-line.line-index in
    let many = as_many_lines c.args.lines.now in
    let number : c.saturating_add-number.result ≡ i + 1 = omega (arith, c.loop-line.invariant.number, c.saturating_add-number.ensures, c.loop-line-test.true) in
    let here = line_here c.args.lines.now i c.line-item.result c.loop-line-test.true in
    let same = faults_same (reverse ss) (above_of ss i) c.loop-line.parts c.args.outline.now c.saturating_add-number.result (sentence c.line-item.result) c.requires c.loop-line.invariant.stands in
    let told = err_from_is_err_and c.from_residual.result c.from_residual.ensures.1 in
    rw (told.1, told.2) (told_here ss i c.saturating_add-number.result _ (sentence c.line-item.result) (omega (arith, many, c.loop-line-test.true)) number (rw (here, ← c.line-item.is) refl) c.loop-line.invariant.faultless (rw same at c.in_err-take_line.ensures.first))

pub loop-line-preserved : goal.loop-line-preserved
loop-line-preserved c =
    let ss = sentences c.args.lines.now in
    let i = c.loop-line.line-index in
    let many = as_many_lines c.args.lines.now in
    let number : c.saturating_add-number.result ≡ i + 1 = omega (arith, c.loop-line.invariant.number, c.saturating_add-number.ensures, c.loop-line-test.true) in
    let here = line_here c.args.lines.now i c.line-item.result c.loop-line-test.true in
    let same = faults_same (reverse ss) (above_of ss i) c.loop-line.parts c.args.outline.now c.saturating_add-number.result (sentence c.line-item.result) c.requires c.loop-line.invariant.stands in
    let none : faults_of (reverse ss) (above_of ss i) c.saturating_add-number.result (sentence c.line-item.result) ≡ [] = sym same ∙ c.in_ok-take_line.ensures.none in
    record {
      number = number;
      faultless = below_more _ _ c.loop-line.invariant.faultless (rw (here, ← c.line-item.is, ← number) none);
      stands = rw (above_more ss i (omega (arith, many, c.loop-line-test.true)), here, ← c.line-item.is)
          (stands_more _ (above_of ss i) (sentence c.line-item.result) c.loop-line.parts c.take_line.new.parts c.loop-line.invariant.stands (rw c.requires.stated at c.in_ok-take_line.ensures.takes));
    }

pub returns-clause-faultless : goal.returns-clause-faultless
returns-clause-faultless c =
    let many = as_many_lines c.args.lines.now in
    λ place lt. c.loop-line.invariant.faultless place (omega (arith, lt, many, c.loop-line-test.false))
