use Rattle.script_text.proofs.Common.{Bor, List, YieldsList-from_slice, find_from_yields_List, is_user_data, rules, tests, user_data_in, ℕ}
use Rattle.script_text.proofs.Mapped.{number_found, number_none}
use Rattle.script_text.proofs.options.given_user_data.Goals as goal

pub returns-in-Some : goal.returns-in-Some
returns-in-Some c = number_found is_user_data user_data_in c.args.options.now c.find.result _ _ c.in-Some.is
    (find_from_yields_List (λ (w : Bor (List ℕ)). is_user_data w.now) _ _ c.find.result c.find.ensures.ran (YieldsList-from_slice c.args.options.now cc) (λ x b q k. search (rules, tests)))
    c.user_data_in.ensures

pub returns-in-None : goal.returns-in-None
returns-in-None c = number_none is_user_data user_data_in c.args.options.now c.find.result c.in-None.is
    (find_from_yields_List (λ (w : Bor (List ℕ)). is_user_data w.now) _ _ c.find.result c.find.ensures.ran (YieldsList-from_slice c.args.options.now cc) (λ x b q k. search (rules, tests)))
