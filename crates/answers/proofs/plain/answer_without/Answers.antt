use Rattle.answers.proofs.Common.{OpAnswers, [], rules, subst, sym, to_z-of_z, w32, ℕ, ℤ, ◌<◌, ◌∙◌}
use Rattle.answers.proofs.Absent.{answers_off}
use Rattle.answers.proofs.plain.answer_without.Goals as goal

pub returns : goal.returns
returns c = λ caps h r long. subst (λ (z : ℤ). OpAnswers caps h r c.args.op z []) (sym (to_z-of_z w32 c.reply_without.result (search rules) ∙ c.reply_without.ensures)) (answers_off caps h r c.args.op c.requires.plain (λ q lt. c.requires.past q (subst (λ (n : ℕ). q < n) long lt)))
