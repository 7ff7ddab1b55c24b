use Rattle.commands.proofs.Lines.{says_all}
use Rattle.commands.proofs.answer.answer_told.Goals as goal

pub returns-clause-same_reference : goal.returns-clause-same_reference
returns-clause-same_reference g c =
    (says_all _ (λ p. p.err.ghost_name) (λ p. g.E.Write.contents p.err.now) c.args.script.now (λ a b n is. is) c.args.progress.now c.answer_observed.new.observer c.answer_observed.ensures.noted).0

pub returns-clause-said : goal.returns-clause-said
returns-clause-said g c =
    (says_all _ (λ p. p.err.ghost_name) (λ p. g.E.Write.contents p.err.now) c.args.script.now (λ a b n is. is) c.args.progress.now c.answer_observed.new.observer c.answer_observed.ensures.noted).1
