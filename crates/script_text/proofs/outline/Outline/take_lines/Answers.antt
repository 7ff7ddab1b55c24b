use Rattle.script_text.proofs.Common.{above_of, arith, sentence, sentences, ◌+◌, ◌≡◌}
use Rattle.script_text.proofs.LinesAbove.{above_more, as_many_lines, length_above, line_here}
use Rattle.script_text.proofs.ReadingLines.{few_rings_above, outlines_more}
use Rattle.script_text.proofs.outline.Outline.take_lines.Goals as goal

pub take-requires : goal.take-requires
take-requires c =
    let ss = sentences c.args.lines.now in
    let i = c.loop-line.line-index in
    let many = as_many_lines c.args.lines.now in
    let long = length_above ss i (omega (arith, many, c.loop-line-test.true)) in
    let few = few_rings_above (above_of ss i) in
    omega (arith, few, long, c.loop-line.invariant.outlines.rings, c.loop-line.invariant.number, c.saturating_add-number.ensures, c.loop-line-test.true)

pub loop-line-preserved : goal.loop-line-preserved
loop-line-preserved c =
    let ss = sentences c.args.lines.now in
    let i = c.loop-line.line-index in
    let many = as_many_lines c.args.lines.now in
    let long = length_above ss i (omega (arith, many, c.loop-line-test.true)) in
    let number : c.saturating_add-number.result ≡ i + 1 = omega (arith, c.loop-line.invariant.number, c.saturating_add-number.ensures, c.loop-line-test.true) in
    let here = line_here c.args.lines.now i c.line-item.result c.loop-line-test.true in
    record {
      number = number;
      outlines = rw (above_more ss i (omega (arith, many, c.loop-line-test.true)), here, ← c.line-item.is)
          (outlines_more (above_of ss i) (sentence c.line-item.result) c.saturating_add-number.result c.loop-line.self c.take.new.self c.loop-line.invariant.outlines (omega (arith, number, long)) c.in_ok-take.ensures);
    }
