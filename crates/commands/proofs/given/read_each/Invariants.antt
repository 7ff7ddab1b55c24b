use Rattle.commands.proofs.Common.{vec_len}
use Rattle.commands.proofs.Gone.{ReadsOn}
use Rattle.commands.proofs.given.read_each.Given as goal

abbrev pub invariant-loop-name : goal.invariant-loop-name
invariant-loop-name g l = ReadsOn (λ t. (t.0.now, g.T.Read.remaining t.1)) l.initial.left.items l.left.items l.given.items

abbrev pub decreases-loop-name : goal.decreases-loop-name
decreases-loop-name g l = vec_len l.left
