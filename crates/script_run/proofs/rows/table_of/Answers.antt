use Rattle.std.proofs.Common.{slice_get}
use Rattle.script_run.proofs.Common.{IfSome, IsRow, Some, arith, subst, sym, ⊎_elim, ◌∙◌, ◌≡◌}
use Rattle.script_run.proofs.ActorLists.{get_last}
use Rattle.script_run.proofs.rows.table_of.Goals as goal

pub loop-place-preserved : goal.loop-place-preserved
loop-place-preserved c = record {
  count = omega (arith, c.in_ok-push.ensures.len, c.loop-place.invariant.count);
  rows = λ place row get. ⊎_elim
      (λ p. c.loop-place.invariant.rows place row p)
      (λ p. subst (λ n. IsRow c.args.script.now c.args.requests.now c.args.taken.now c.args.left.now n row) (sym (p.0 ∙ c.loop-place.invariant.count)) (subst (λ r. IsRow c.args.script.now c.args.requests.now c.args.taken.now c.args.left.now c.loop-place.place r) (sym p.1) (subst (λ o. IfSome o (λ r. IsRow c.args.script.now c.args.requests.now c.args.taken.now c.args.left.now c.loop-place.place r)) c.in-Some.is c.in_ok-row.ensures)))
      (get_last c.loop-place.lines.items c.in-Some.row place row (subst (λ rs. slice_get rs place ≡ Some row) c.in_ok-push.ensures.items get));
}
