use Rattle.model.proofs.Common.{SFits, ap, fails_op, rules, to_z-of_z, w32, ◌∙◌}
use Rattle.model.proofs.RingReading.{severs_kept}
use Rattle.model.proofs.chain.severs.Goals as goal

pub returns-else-fails_as : goal.returns-else-fails_as
returns-else-fails_as c =
    let fits : SFits w32 c.in-Some.res = search rules in let res = c.in-Some.ensures in
    let no = c.if-fails_as.ensures ∙ ap (fails_op c.placed_op-op.result) (to_z-of_z w32 c.in-Some.res fits) in
    rw (severs_kept _ _ _ _ c.requires c.index-requests-k.is c.placed_op-op.ensures, ← res, ← no) c.if-fails_as.false

pub returns-in-None : goal.returns-in-None
returns-in-None c =
    let e = severs_kept _ _ _ _ c.requires c.index-requests-k.is c.placed_op-op.ensures in let j = c.in-None.ensures in rw (e, ← j)
