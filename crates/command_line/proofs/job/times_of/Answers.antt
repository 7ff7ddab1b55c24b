use Rattle.command_line.proofs.Common.{ExplainsUnsignedError, HasUnsignedDigitsIfOk, ParsesUnsigned, Some, ap, arith, codes, decimal, found_of, none-some, one_text-rows, refl, sym, ℕ, ◌<◌, ◌^◌, ◌∙◌, ◌≡◌}
use Rattle.command_line.proofs.Words.{number_read}
use Rattle.command_line.proofs.job.times_of.Goals as goal

pub returns-in-Some-clause-times : goal.returns-in-Some-clause-times
returns-in-Some-clause-times c = record {
  none = λ none. absurd (none-some c.in-Some.number (sym (c.get_one.ensures.none (one_text-rows (found_of c.args.given.now) (codes "times") ∙ none)) ∙ c.in-Some.is));
  some = λ m one lo hi.
      (let small : m < 2 ^ 32 = omega arith in
      let read = c.get_one.ensures.value (decimal m) (one_text-rows (found_of c.args.given.now) (codes "times") ∙ one) in
      let is = number_read _ (λ bs r. ParsesUnsigned 32 10 bs r × ExplainsUnsignedError 10 bs r × HasUnsignedDigitsIfOk bs r) m c.get_one.result read (λ u x g. g.0) small in
      let both : Some c.in-Some.number ≡ Some m = sym c.in-Some.is ∙ is in
      let same : c.in-Some.number ≡ m = cc in
      let a = c.max.ensures in let b = c.min.ensures in
      let it : c.min.result ≡ m = omega arith in
      ap (λ (n : ℕ). Some n) it);
}

pub returns-in-None-clause-times : goal.returns-in-None-clause-times
returns-in-None-clause-times c = record {
  none = λ none. refl;
  some = λ m one lo hi.
      (let small : m < 2 ^ 32 = omega arith in
      let read = c.get_one.ensures.value (decimal m) (one_text-rows (found_of c.args.given.now) (codes "times") ∙ one) in
      let is = number_read _ (λ bs r. ParsesUnsigned 32 10 bs r × ExplainsUnsignedError 10 bs r × HasUnsignedDigitsIfOk bs r) m c.get_one.result read (λ u x g. g.0) small in
      absurd (none-some m (sym c.in-None.is ∙ is)));
}
