use Rattle.text.proofs.Common.{Decides-eqb, strip_prefix_is}
use Rattle.text.proofs.line.behind.Goals as goal

pub returns : goal.returns
returns c = strip_prefix_is Decides-eqb c.args.bytes.now c.args.front.now _ c.strip_prefix.ensures.cases
