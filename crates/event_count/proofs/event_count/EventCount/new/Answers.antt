use Rattle.std.proofs.lemmas.Grind.{common_steps}
use Rattle.event_count.proofs.Common.{[], arith, rules, ◌∷◌, ◌≡◌}
use Rattle.event_count.proofs.Opening.{opens}
use Rattle.event_count.proofs.event_count.EventCount.new.Goals as goal

pub of_words-requires : goal.of_words-requires
of_words-requires c = let words : c.as_slice.result.now ≡ 0 ∷ 0 ∷ [] = first_of (search rules, grind (arith, common_steps)) in rw words opens
