use Rattle.runtime.proofs.Common.{refl, sym, ◌∙◌}
use Rattle.runtime.proofs.TurnLaws.{rang_looked}
use Rattle.runtime.proofs.DueTimers.{armed_by_look, unarmed_by_look}
use Rattle.runtime.proofs.ringing.is_armed.Goals as goal

pub returns-clause-went_on : goal.returns-clause-went_on
returns-clause-went_on c = λ o. rang_looked _ _ _ o c.look.ensures.looks (c.look.ensures.alone c.requires.own.1.0 c.requires.own.1.1) (refl, refl, refl) (λ m. m)

pub returns-clause-armed : goal.returns-clause-armed
returns-clause-armed c = λ e. armed_by_look c.look.new.pass.view.seen c.args.req c.look.result (sym c.is_armed_at.ensures ∙ e) c.look.ensures.finds.0

pub returns-clause-unarmed : goal.returns-clause-unarmed
returns-clause-unarmed c = λ e. unarmed_by_look c.look.new.pass.view.seen c.args.req c.look.result (sym c.is_armed_at.ensures ∙ e) c.look.ensures.finds.0
