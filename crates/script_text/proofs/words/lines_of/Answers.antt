use Rattle.std.proofs.lemmas.Iterator.Consumers.{map_from_collect}
use Rattle.std.proofs.lemmas.Iterator.Splits.{YieldsList-from_slice_split}
use Rattle.script_text.specs.TextWords.{text_lines}
use Rattle.script_text.proofs.Common.{rules, tests}
use Rattle.script_text.proofs.words.lines_of.Goals as goal

pub returns : goal.returns
unfolding text_lines
returns c = rw (← c.without_end.ensures) (map_from_collect _ c.collect.ensures.ran (YieldsList-from_slice_split _ _ c.without_end.result.now c.split.ensures.rest c.split.ensures.done c.split.ensures.closure (λ x r q k. search (rules, tests))))
