use Rattle.std.proofs.lemmas.Slice.Eq.{bytes_eq-Decides}
use Rattle.commands.specs.declared.problem.Problem.TheVariants.{Input}
use Rattle.commands.proofs.Common.{Keeps-refl, inl, inr, refl, sym, true≢false, ◌∙◌}
use Rattle.commands.proofs.Problems.{right_as}
use Rattle.commands.proofs.files.serve.Goals as goal

pub returns-then-eq-clause-ends : goal.returns-then-eq-clause-ends
returns-then-eq-clause-ends g c = right_as c.serve_script.ensures.ends (λ x. record {
  script = g.R.Standard.Read.remaining c.standard-script.result;
  tables = x.0;
  script_is = inl ((bytes_eq-Decides _ _).0 (sym c.eq.ensures ∙ c.if-eq.true), c.standard-script.result, c.standard-script.ensures, refl);
  tables_are = x.1;
  ends = x.2;
})

pub returns-in-Ok-clause-ends : goal.returns-in-Ok-clause-ends
returns-in-Ok-clause-ends g c = right_as c.serve_script-in-Ok.ensures.ends (λ x. record {
  script = g.R.File.Read.remaining c.in-Ok.script;
  tables = x.0;
  script_is = inr (λ e. true≢false (sym ((bytes_eq-Decides _ _).1 e) ∙ (sym c.eq.ensures ∙ c.if-eq.false)), c.in-Ok.script, c.in-Ok.ensures, refl);
  tables_are = x.1;
  ends = x.2;
})

pub returns-in-Err-clause-ends : goal.returns-in-Err-clause-ends
returns-in-Err-clause-ends g c = inl (record { problem = Input; which = inl refl; status_is = c.tell.ensures.status; kept = Keeps-refl _; line = c.tell.ensures.line })
