use Rattle.script_text.proofs.Common.{Bor, List, YieldsList-from_slice, count_in, find_from_yields_List, is_count, rules, tests, ℕ}
use Rattle.script_text.proofs.Mapped.{number_found, number_none}
use Rattle.script_text.proofs.options.given_count.Goals as goal

pub returns-in-Some : goal.returns-in-Some
returns-in-Some c = number_found is_count count_in c.args.options.now c.find.result _ _ c.in-Some.is
    (find_from_yields_List (λ (w : Bor (List ℕ)). is_count w.now) _ _ c.find.result c.find.ensures.ran (YieldsList-from_slice c.args.options.now cc) (λ x b q k. search (rules, tests)))
    c.count_in.ensures

pub returns-in-None : goal.returns-in-None
returns-in-None c = number_none is_count count_in c.args.options.now c.find.result c.in-None.is
    (find_from_yields_List (λ (w : Bor (List ℕ)). is_count w.now) _ _ c.find.result c.find.ensures.ran (YieldsList-from_slice c.args.options.now cc) (λ x b q k. search (rules, tests)))
