use Rattle.gates.specs.declared.traits.Traits.{Traits}
use Rattle.board.proofs.Common.{ap, not, ◌||◌, ◌∙◌}
use Rattle.board.proofs.intake.is_plain.Goals as goal

pub returns : goal.returns
returns c = λ e last facts. c.are_plain.ensures ∙ ap (λ (t : Traits). not (((t.drains || t.links_soft) || t.links_hard) || t.link_timeout)) (c.traits_in.ensures e last facts)
