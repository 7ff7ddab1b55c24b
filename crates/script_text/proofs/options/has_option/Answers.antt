use Rattle.script_text.proofs.Common.{Bor, List, YieldsList-from_slice, any_from_yields_List, is_same, rules, tests, ℕ}
use Rattle.script_text.proofs.Mapped.{list_any-texts}
use Rattle.script_text.proofs.options.has_option.Goals as goal

pub returns : goal.returns
returns c = rw list_any-texts (any_from_yields_List (λ (w : Bor (List ℕ)). is_same w.now c.args.name.now) _ _ _ c.any.ensures.ran (YieldsList-from_slice c.args.options.now cc) (λ x b q k. search (rules, tests)))
