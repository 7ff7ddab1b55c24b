use Rattle.command_line.proofs.Common.{ExplainsUnsignedError, HasUnsignedDigitsIfOk, ParsesUnsigned, Some, arith, decimal, found_of, none-some, one_text-rows, sym, ◌<◌, ◌^◌, ◌∙◌, ◌≡◌}
use Rattle.command_line.proofs.Words.{number_read}
use Rattle.command_line.proofs.job.number_of.Goals as goal

pub returns-in-Some-clause-number : goal.returns-in-Some-clause-number
returns-in-Some-clause-number c = λ m one lo hi.
    (let fits = c.ranges.most in let small : m < 2 ^ 32 = omega arith in
    let read = c.get_one.ensures.value (decimal m) (one_text-rows (found_of c.args.given.now) c.args.word.now ∙ one) in
    let is = number_read _ (λ bs r. ParsesUnsigned 32 10 bs r × ExplainsUnsignedError 10 bs r × HasUnsignedDigitsIfOk bs r) m c.get_one.result read (λ u x g. g.0) small in
    let both : Some c.in-Some.number ≡ Some m = sym c.in-Some.is ∙ is in
    let same : c.in-Some.number ≡ m = cc in
    let a = c.max.ensures in let b = c.min.ensures in
    omega arith)

pub returns-in-None-clause-number : goal.returns-in-None-clause-number
returns-in-None-clause-number c = λ m one lo hi.
    (let fits = c.ranges.most in let small : m < 2 ^ 32 = omega arith in
    let read = c.get_one.ensures.value (decimal m) (one_text-rows (found_of c.args.given.now) c.args.word.now ∙ one) in
    let is = number_read _ (λ bs r. ParsesUnsigned 32 10 bs r × ExplainsUnsignedError 10 bs r × HasUnsignedDigitsIfOk bs r) m c.get_one.result read (λ u x g. g.0) small in
    absurd (none-some m (sym c.in-None.is ∙ is)))
