use Rattle.std.specs.Prelude.{List}
use Rattle.std.proofs.lemmas.Iterator.Consumers.{map_from_collect, YieldsList-at, YieldsList-from_filter}
use Rattle.std.proofs.lemmas.Iterator.Splits.{YieldsList-from_slice_split}
use Rattle.script_text.specs.TextWords.{words_in}
use Rattle.script_text.proofs.Common.{length, not, rules, tests, ℕ, ◌==◌}
use Rattle.script_text.proofs.words.words_in.Goals as goal

pub returns : goal.returns
unfolding words_in
returns c = map_from_collect _ c.collect.ensures.ran (YieldsList-from_filter _ (λ (word : List ℕ). not (length word == 0))
    (YieldsList-at c.filter.ensures.source (YieldsList-from_slice_split _ (λ (b : ℕ). b == 32) c.args.line.now c.split.ensures.rest c.split.ensures.done c.split.ensures.closure (λ x r q k. search (rules, tests))))
    c.filter.ensures.closure (λ x r q k. search (rules, tests)))
