use Rattle.script_text.proofs.Common.{sentence}
use Rattle.script_text.proofs.ReadingLines.{fits_of}
use Rattle.script_text.proofs.reading.take_line.Goals as goal

pub take-requires-clause-fits : goal.take-requires-clause-fits
take-requires-clause-fits c = fits_of c.args.parts.now c.args.outline.now c.args.number (sentence c.args.line.now) c.in_default.ensures.first
