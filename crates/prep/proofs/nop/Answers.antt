use Rattle.prep.proofs.Common.{Nop, plain, refl}
use Rattle.prep.proofs.nop.Goals as goal

pub returns : goal.returns
returns c = c.entry_of.ensures.again (plain Nop) refl refl refl refl
