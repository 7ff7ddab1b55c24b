use Rattle.commands.proofs.Gone.{OpensOn}
use Rattle.commands.proofs.files.open_each.Given as goal

abbrev pub invariant-loop-name : goal.invariant-loop-name
invariant-loop-name g l = OpensOn (g.R.Inputs.opens l.rt) g.R.File.Read.remaining l.names l.name-index l.made.items
