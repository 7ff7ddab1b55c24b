use Rattle.command_line.proofs.Common.{Bor, IfOk-weaker, List, Option, Text, [], ap, codes, found_of, map, option_map, raw_values-rows, sym, unwrap_or, ◌∙◌}
use Rattle.command_line.proofs.job.tables_of.Goals as goal

pub returns-in-Some : goal.returns-in-Some
returns-in-Some c =
    let is = ap (λ (o : Option (List Text)). unwrap_or o []) (sym (ap (option_map (λ s. map (λ v. v.now) s.now)) c.in-Some.is) ∙ (c.get_raw.ensures ∙ raw_values-rows (found_of c.args.given.now) (codes "TABLE"))) in
    IfOk-weaker c.from_slice.result _ _ (λ v e. ap (map (λ (t : Bor Text). t.now)) e ∙ is) c.from_slice.ensures.items

pub returns-in-None : goal.returns-in-None
returns-in-None c =
    let is = ap (λ (o : Option (List Text)). unwrap_or o []) (sym (ap (option_map (λ s. map (λ v. v.now) s.now)) c.in-None.is) ∙ (c.get_raw.ensures ∙ raw_values-rows (found_of c.args.given.now) (codes "TABLE"))) in
    ap (map (λ (t : Bor Text). t.now)) c.new.ensures.items ∙ is
