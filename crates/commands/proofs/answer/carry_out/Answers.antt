use Rattle.commands.proofs.Common.{Appends, AppendsSome, Keeps-refl, err_from_is_err_and, subst}
use Rattle.commands.proofs.Problems.{ends_by}
use Rattle.commands.proofs.answer.carry_out.Goals as goal

pub returns-in_err-answer-clause-ends : goal.returns-in_err-answer-clause-ends
returns-in_err-answer-clause-ends g c =
    let p = err_from_is_err_and c.from_residual.result c.from_residual.ensures.1 in
    rw (p.1, p.2) (ends_by c.args.job.now _ _ _ _ c.in_err-answer.field-0.0 c.in_err-answer.ensures.explains (Keeps-refl (g.W.Write.contents c.args.console.now.out)))

pub returns-in_err-put_out-clause-ends : goal.returns-in_err-put_out-clause-ends
returns-in_err-put_out-clause-ends g c =
    let p = err_from_is_err_and c.from_residual-in_err-put_out.result c.from_residual-in_err-put_out.ensures.1 in
    rw (p.1, p.2, c.in_err-put_out.ensures.output) (record {
      text = c.in_ok-answer.answer.text.items;
      status = c.in_ok-answer.answer.status;
      stats = c.in_ok-answer.answer.stats;
      is_answer = c.in_ok-answer.ensures.answer;
      went = subst (AppendsSome (g.W.Write.contents c.args.console.now.out) (g.W.Write.contents c.put_out.new.out)) c.deref.ensures.value c.in_err-put_out.ensures.begun;
    })

pub returns-clause-answered : goal.returns-clause-answered
returns-clause-answered g c = record {
  text = c.in_ok-answer.answer.text.items;
  stats = c.in_ok-answer.answer.stats;
  is_answer = c.in_ok-answer.ensures.answer;
  went = subst (Appends (g.W.Write.contents c.args.console.now.out) (g.W.Write.contents c.put_out.new.out)) c.deref.ensures.value c.in_ok-put_out.ensures.all;
  err-said = g.E.Write.contents c.answer.new.err;
  said = c.answer.ensures.said;
  told = c.put_stats.ensures;
}
