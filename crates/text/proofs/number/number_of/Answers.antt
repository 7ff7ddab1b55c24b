use Rattle.text.proofs.Numbers.{value_from}
use Rattle.text.proofs.number.number_of.Goals as goal

pub returns-clause-value : goal.returns-clause-value
returns-clause-value c = value_from c.args.word.now c.digits_of.result c.digits_of.ensures.found c.digits_of.ensures.only
