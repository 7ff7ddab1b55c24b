use Rattle.board.proofs.Common.{Ages, Claim, ap, subst, sym, ◌∙◌}
use Rattle.board.proofs.Standings.{parts_tell}
use Rattle.board.proofs.report.age_of.Goals as goal

pub returns-clause-ages : goal.returns-clause-ages
returns-clause-ages c = λ K j x shown.
    (let p = parts_tell K j x c.args.word shown.0 c.in-Some.claim c.in-Some.ensures.fits c.in-Some.ensures.packed shown.1 in
    subst (Ages K j x) (p.2 ∙ (sym (ap (λ (z : Claim). z.generation) c.claim.view_is) ∙ sym c.from.ensures)) shown.1.ages)
