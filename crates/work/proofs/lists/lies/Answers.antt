use Rattle.work.proofs.Common.{sym, ◌∙◌}
use Rattle.work.proofs.LyingThere.{found_there, lies_found}
use Rattle.work.proofs.lists.lies.Goals as goal

pub returns : goal.returns
returns c = let r = c.args.req in let rs = c.args.lying.now in let is = c.contains.ensures.value in
    record { exact = (λ e. lies_found rs r (sym is ∙ e), λ k. is ∙ found_there rs r k) }
