use Rattle.commands.proofs.Common.{Appends, AppendsSome, List, OnErr, OnOk, codes, number_line, subst, text_of, ℕ, ◌++◌, ◌∙◌, ◌≡◌}
use Rattle.commands.proofs.told.put_number.Goals as goal

pub returns : goal.returns
returns g c =
    let e = c.of-line.ensures in let digits = e.1 ∙ c.format.ensures.text in
    let is : text_of c.of-line.result ≡ number_line c.args.lead.now c.args.number = λ j. e.0 j ++ (digits j ++ (e.2 j ++ (e.3 j ++ codes "\n"))) in
    record {
      all = subst (λ (t : List ℕ). OnOk c.put_line.result (Appends (g.W.Write.contents c.args.out.now) (g.W.Write.contents c.put_line.new.out) t)) is c.put_line.ensures.all;
      begun = subst (λ (t : List ℕ). OnErr c.put_line.result (AppendsSome (g.W.Write.contents c.args.out.now) (g.W.Write.contents c.put_line.new.out) t)) is c.put_line.ensures.begun;
    }
