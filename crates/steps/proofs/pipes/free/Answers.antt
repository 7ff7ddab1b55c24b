use Rattle.steps.proofs.Common.{HasAlone, View, subst, sym, ◌∙◌}
use Rattle.steps.proofs.PipeSteps.{one_worker, bare_after}
use Rattle.steps.proofs.pipes.free.Goals as goal

pub give_back-requires-clause-busy : goal.give_back-requires-clause-busy
give_back-requires-clause-busy c = let b = c.requires.busy in (b.0, b.1, b.3.0)

pub returns-clause-frees : goal.returns-clause-frees
returns-clause-frees c = let b = c.requires.busy in let v : View = c.args.seat.now.me.0 in let w : View = c.give_back.new.seat.me.0 in
    λ q is. let x = c.give_back.ensures.frees q is in (x, bare_after v w q c.args.pipe is c.args.laid (subst (HasAlone v.seen c.args.pipe) (one_worker b.0 q (sym b.1 ∙ is)) b.3) x)
