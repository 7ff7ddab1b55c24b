use Rattle.script_run.proofs.Common.{IfSome, IsRowOf, None, Some, ap, slice_get-get_or, slice_get_read, subst, ◌∙◌}
use Rattle.script_run.proofs.rows.row_at.Goals as goal

pub returns : goal.returns
returns c = record {
  entry = c.index-entry.result.now;
  entry_is = slice_get_read c.args.script.now.entries.items c.len.result c.args.place c.index-entry.result.now (c.len.ensures ∙ c.args.script.now.entries.ok.0) c.if-place-len.false c.index-entry.ensures;
  req = c.in-Some.req;
  request_is = slice_get-get_or c.args.requests.now c.args.place None c.if-place-requests.false ∙ ap Some c.in-Some.is;
  completion = c.in-Some-completion_of.completion.now;
  found = c.in-Some-completion_of.ensures;
  row_is = subst (λ o. IfSome o (IsRowOf c.index-entry.result.now c.in-Some-completion_of.completion.now)) c.in-Some-2.is c.in_ok-row.ensures;
}
